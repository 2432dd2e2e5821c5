-- What is found to be left out: each is given by one of the steps, and what was there to be found in front of a state is found.
use Rattle.std.proofs.Common.{◌≡◌, ℕ, ◌<◌, List, [], ◌∷◌, ◌++◌, length, map, Bool, true, false, Option, Some, None, ◌⊎◌, inl, inr, refl, sym, ◌∙◌, ap, subst, if◌then◌else◌, Contains, true≢false, arith}
use Rattle.std.specs.Prelude.{◌&&◌, ◌||◌, not, nat_lt}
use Rattle.std.specs.Option.{option_or}
use Rattle.std.proofs.lemmas.Bool.{and_parts, cases_Bool, lt-ltb, ltb-true, not-true, or_left, or_parts, or_right}
use Rattle.std.proofs.lemmas.List.{length-append, map-append}
use Rattle.std.proofs.lemmas.List.Elements.{Contains-append_cases, Contains-append_left, Contains-append_right, Contains-push, Contains-push_cases}
use Rattle.cov_expr.proofs.Tests.{left_true, right_true}
use Rattle.cov_expr.proofs.Trees.{has_term_append, same_refl}
use Rattle.cov_expr.specs.declared.expr.Op.TheVariants.{Both}
use Rattle.cov_expr.specs.Term.{Term, bin}
use Rattle.cov_expr.specs.Trees.{has_term, is_closed, same}
use Rattle.cov_ast.specs.Plain.{Plain}
use Rattle.cov_ast.specs.Tables.{has}
use Rattle.entail_origins.specs.Origins.{Given, given, given_by}
use Rattle.statement_paths.specs.Paths.{Step, place_of}
use Rattle.point_law.specs.Terms.{each_variable}
use Rattle.entail_losses.specs.LeftOut.{LeftOut, left_out, left_out_at, search_along, state_of_step, states_from, states_of, states_of_steps, gives_nothing, is_known, is_left_out, with_given, with_each, with_step}
use Rattle.entail_losses.specs.WouldBeKnown.{first_state}
use Rattle.entail_losses.specs.declared.left_out_found.TheConstants.{MOST_FOUND}
use Rattle.entail_losses.specs.declared.left_out_states.StateAt.{StateAt}
use Rattle.entail_losses.specs.declared.left_out_states.States.{States}
use Rattle.entail_losses.proofs.StepLaws.{only}

-- What isn't found yet -------------------------------------------------------------------------------------------

abbrev pub terms : List LeftOut → List Term
terms found = map (λ o. o.term) found

-- fewer were found than are shown, and this one isn't among them
pub record IsFresh (found : List LeftOut) (e : Term) : Type 0 where
  pub few : nat_lt (length found) MOST_FOUND ≡ true
  pub another : has_term (terms found) e ≡ false

terms_with : (found : List LeftOut) (o : LeftOut) (e : Term) → has_term (terms (found ++ o ∷ [])) e ≡ (has_term (terms found) e || has_term (o.term ∷ []) e)
terms_with found o e = ap (λ es. has_term es e) (map-append (λ x. x.term) found (o ∷ [])) ∙ has_term_append (terms found) (o.term ∷ []) e

fresh_without : (found : List LeftOut) (o : LeftOut) (e : Term) → IsFresh (found ++ o ∷ []) e → IsFresh found e
fresh_without found o e fresh =
    let more : length (found ++ o ∷ []) < MOST_FOUND = ltb-true (length (found ++ o ∷ [])) MOST_FOUND fresh.few in
    record {
      few = lt-ltb (length found) MOST_FOUND (omega (arith, length-append found (o ∷ []), more));
      another = (or_parts (has_term (terms found) e) (has_term (o.term ∷ []) e) (sym (terms_with found o e) ∙ fresh.another)).0;
    }

not_fresh : (found : List LeftOut) (o : LeftOut) → IsFresh (found ++ o ∷ []) o.term → ⊥
not_fresh found o fresh =
    let there : has_term (o.term ∷ []) o.term ≡ true = or_left (same o.term o.term) false (same_refl o.term) in
    true≢false (sym (terms_with found o o.term ∙ or_right (has_term (terms found) o.term) (has_term (o.term ∷ []) o.term) there) ∙ fresh.another)

module _ (hypotheses : List Term) where
  -- What is known ----------------------------------------------------------------------------------------------

  pub known_hypothesis : (e : Term) → has_term hypotheses e ≡ true → is_known hypotheses e ≡ true
  known_hypothesis (bin Both a b) there = or_left (has_term hypotheses (bin Both a b)) (is_known hypotheses a && is_known hypotheses b) there
  known_hypothesis _ there = there

  pub not_among : (e : Term) → is_known hypotheses e ≡ false → has_term hypotheses e ≡ false
  not_among e unknown = elim (cases_Bool (has_term hypotheses e)) [
    | inl there ↦ absurd (true≢false (sym (known_hypothesis e there) ∙ unknown))
    | inr other ↦ other
  ]

  -- What a predicate is that was left out in front of steps that keep these variables.
  pub record IsMissing (kept : List Bool) (e : Term) : Type 0 where
    pub not_closed : is_closed e ≡ false
    pub over : each_variable (has kept) e ≡ true
    pub unknown : is_known hypotheses e ≡ false

  -- a predicate that a step gives, and that was left out; `found` were found behind the step
  pub record IsNew (kept : List Bool) (at : ℕ) (states : States) (found : List LeftOut) (gs : List Given) (o : LeftOut) : Type 0 where
    pub placed : at ≡ o.origin.at
    pub names : states ≡ states_of o
    pub gives : Contains gs (given o.origin.source o.term)
    pub gives_some : gives_nothing o.origin.source o.term ≡ false
    pub missing : IsMissing kept o.term
    pub fresh : IsFresh found o.term

  module _ (kept : List Bool) (at : ℕ) (states : States) where
    abbrev passes : Given → List LeftOut → Bool
    passes g found = not (gives_nothing g.source g.term) && is_left_out hypotheses kept found g.term

    new_one : (g : Given) (found : List LeftOut) → passes g found ≡ true → IsNew kept at states found (g ∷ []) (left_out_at at states g)
    new_one g found h =
        let both = and_parts (not (gives_nothing g.source g.term)) (is_left_out hypotheses kept found g.term) h in
        let few = nat_lt (length found) MOST_FOUND in
        let not_closed = not (is_closed g.term) in
        let over = each_variable (has kept) g.term in
        let unknown = not (is_known hypotheses g.term) in
        let another = not (has_term (terms found) g.term) in
        let four = left_true (few && not_closed && over && unknown) another both.1 in
        let three = left_true (few && not_closed && over) unknown four in
        let two = left_true (few && not_closed) over three in
        record {
          placed = refl;
          names = refl;
          gives = Contains-push [] g;
          gives_some = not-true (gives_nothing g.source g.term) both.0;
          missing = record {
            not_closed = not-true (is_closed g.term) (right_true few not_closed two);
            over = right_true (few && not_closed) over three;
            unknown = not-true (is_known hypotheses g.term) (right_true (few && not_closed && over) unknown four);
          };
          fresh = record {
            few = left_true few not_closed two;
            another = not-true (has_term (terms found) g.term) (right_true (few && not_closed && over && unknown) another both.1);
          };
        }

    -- such a one passes
    does_pass : (g : Given) (found : List LeftOut) → gives_nothing g.source g.term ≡ false → IsMissing kept g.term → IsFresh found g.term → passes g found ≡ true
    does_pass g found some missing fresh = λ i.
        not (some i) && (fresh.few i && not (missing.not_closed i) && missing.over i && not (missing.unknown i) && not (fresh.another i))

    -- What is found has what was found before -----------------------------------------------------------------------

    fresh_given : (g : Given) (found : List LeftOut) (e : Term) → IsFresh (with_given hypotheses kept at states g found) e → IsFresh found e
    fresh_given g found e = by_case (passes g found)
      where
        by_case : (b : Bool) → IsFresh (if b then found ++ left_out_at at states g ∷ [] else found) e → IsFresh found e
        by_case true fresh = fresh_without found (left_out_at at states g) e fresh
        by_case false fresh = fresh

    fresh_each : (gs : List Given) (found : List LeftOut) (e : Term) → IsFresh (with_each hypotheses kept at states gs found) e → IsFresh found e
    fresh_each [] found e fresh = fresh
    fresh_each (g ∷ gs) found e fresh = fresh_given g found e (fresh_each gs (with_given hypotheses kept at states g found) e fresh)

    -- Each that is found is new -------------------------------------------------------------------------------------

    wider : (found less : List LeftOut) (gs hs : List Given) (o : LeftOut) → ((g : Given) → Contains gs g → Contains hs g)
        → (IsFresh found o.term → IsFresh less o.term) → IsNew kept at states found gs o → IsNew kept at states less hs o
    wider found less gs hs o more before new = record {
      placed = new.placed;
      names = new.names;
      gives = more (given o.origin.source o.term) new.gives;
      gives_some = new.gives_some;
      missing = new.missing;
      fresh = before new.fresh;
    }

    -- what is found with a predicate that a step gives was found before, or is that one
    in_given : (g : Given) (found : List LeftOut) (o : LeftOut) → Contains (with_given hypotheses kept at states g found) o
        → Contains found o ⊎ IsNew kept at states found (g ∷ []) o
    in_given g found o k = by_case (passes g found) refl k
      where
        by_case : (b : Bool) → passes g found ≡ b → Contains (if b then found ++ left_out_at at states g ∷ [] else found) o
            → Contains found o ⊎ IsNew kept at states found (g ∷ []) o
        by_case true is h = elim (Contains-push_cases found (left_out_at at states g) o h) [
          | inl old ↦ inl old
          | inr same ↦ inr (subst (IsNew kept at states found (g ∷ [])) same (new_one g found is))
        ]
        by_case false is h = inl h

    in_each : (gs : List Given) (found : List LeftOut) (o : LeftOut) → Contains (with_each hypotheses kept at states gs found) o
        → Contains found o ⊎ IsNew kept at states found gs o
    in_each [] found o k = inl k
    in_each (g ∷ gs) found o k = from (in_each gs (with_given hypotheses kept at states g found) o k)
      where
        first : Contains found o ⊎ IsNew kept at states found (g ∷ []) o → Contains found o ⊎ IsNew kept at states found (g ∷ gs) o
        first (inl old) = inl old
        first (inr new) = inr (wider found found (g ∷ []) (g ∷ gs) o (λ h. Contains-append_left (g ∷ []) gs h) (λ fresh. fresh) new)

        from : Contains (with_given hypotheses kept at states g found) o ⊎ IsNew kept at states (with_given hypotheses kept at states g found) gs o
            → Contains found o ⊎ IsNew kept at states found (g ∷ gs) o
        from (inl so_far) = first (in_given g found o so_far)
        from (inr later) =
            inr (wider (with_given hypotheses kept at states g found) found gs (g ∷ gs) o (λ h. Contains-append_right (g ∷ []) gs h) (fresh_given g found o.term) later)

    -- What is missing is found --------------------------------------------------------------------------------------

    is_found_now : (g : Given) (found : List LeftOut) → gives_nothing g.source g.term ≡ false → IsMissing kept g.term
        → IsFresh (with_given hypotheses kept at states g found) g.term → ⊥
    is_found_now g found some missing fresh = by_case (passes g found) refl fresh
      where
        by_case : (b : Bool) → passes g found ≡ b → IsFresh (if b then found ++ left_out_at at states g ∷ [] else found) g.term → ⊥
        by_case true is new = not_fresh found (left_out_at at states g) new
        by_case false is old = true≢false (sym (does_pass g found some missing old) ∙ is)

    pub is_found : (gs : List Given) (found : List LeftOut) (g : Given) → Contains gs g → gives_nothing g.source g.term ≡ false → IsMissing kept g.term
        → IsFresh (with_each hypotheses kept at states gs found) g.term → ⊥
    is_found [] found g k some missing fresh = let inside = k.1 in omega arith
    is_found (h ∷ gs) found g k some missing fresh = elim (Contains-append_cases (h ∷ []) gs g k) [
      | inl first ↦
          let here : IsFresh (with_given hypotheses kept at states h found) g.term = fresh_each gs (with_given hypotheses kept at states h found) g.term fresh in
          is_found_now g found some missing (subst (λ x. IsFresh (with_given hypotheses kept at states x found) g.term) (only first) here)
      | inr later ↦ is_found gs (with_given hypotheses kept at states h found) g later some missing fresh
    ]

-- Several steps --------------------------------------------------------------------------------------------------

-- The first of the states of steps is their first state.
abbrev pub first_of : Option States → Option StateAt
first_of None = None
first_of (Some states) = Some states.first

pub first_is : (ss : List Step) → first_state ss ≡ first_of (states_of_steps ss)
first_is [] = refl
first_is (s ∷ ss) = by_state (state_of_step s) (first_is ss)
  where
    by_state : (x : Option StateAt) → first_state ss ≡ first_of (states_of_steps ss) → option_or x (first_state ss) ≡ first_of (states_from x (states_of_steps ss))
    by_state None same = same
    by_state (Some state) same = refl

module _ (p : Plain) (hypotheses : List Term) (marks : List Bool) where
  abbrev pub kept_behind : List Step → List Bool
  kept_behind ss = (search_along p hypotheses marks ss).kept

  abbrev pub found_behind : List Step → List LeftOut
  found_behind ss = (search_along p hypotheses marks ss).found

  -- the states of the steps are those that are named
  pub same_states : (ss : List Step) → (search_along p hypotheses marks ss).states ≡ states_of_steps ss
  same_states [] = refl
  same_states (s ∷ ss) = ap (states_from (state_of_step s)) (same_states ss)

  -- what isn't found with a step more wasn't found before
  pub fresh_step : (s : Step) (ss : List Step) (e : Term) → IsFresh (found_behind (s ∷ ss)) e → IsFresh (found_behind ss) e
  fresh_step s ss e = by_states (search_along p hypotheses marks ss).states
    where
      by_states : (x : Option States) → IsFresh (with_step p hypotheses (kept_behind ss) s x (found_behind ss)) e → IsFresh (found_behind ss) e
      by_states None fresh = fresh
      by_states (Some states) fresh = fresh_each hypotheses (kept_behind ss) (place_of s) states (given_by p s) (found_behind ss) e fresh

  -- what a step gives and a state behind it left out is found
  pub found_in_step : (s : Step) (ss : List Step) (states : States) (g : Given) → states_of_steps ss ≡ Some states → Contains (given_by p s) g
      → gives_nothing g.source g.term ≡ false → IsMissing hypotheses (kept_behind ss) g.term → IsFresh (found_behind (s ∷ ss)) g.term → ⊥
  found_in_step s ss states g there k some missing fresh =
      is_found hypotheses (kept_behind ss) (place_of s) states (given_by p s) (found_behind ss) g k some missing
      (subst (λ x. IsFresh (with_step p hypotheses (kept_behind ss) s x (found_behind ss)) g.term) (same_states ss ∙ there) fresh)

  -- one of the steps gives it
  pub record IsGiven (ss : List Step) (o : LeftOut) : Type 0 where
    pub front : List Step
    pub step : Step
    pub back : List Step
    pub parts : ss ≡ front ++ step ∷ back
    pub states : states_of_steps back ≡ Some (states_of o)
    pub new : IsNew hypotheses (kept_behind back) (place_of step) (states_of o) (found_behind back) (given_by p step) o

  longer : (s : Step) (ss : List Step) (o : LeftOut) → IsGiven ss o → IsGiven (s ∷ ss) o
  longer s ss o found = record {
    front = s ∷ found.front;
    step = found.step;
    back = found.back;
    parts = ap (λ rest. s ∷ rest) found.parts;
    states = found.states;
    new = found.new;
  }

  pub is_given : (ss : List Step) (o : LeftOut) → Contains (left_out p hypotheses marks ss) o → IsGiven ss o
  is_given [] o k = let inside = k.1 in absurd (omega arith)
  is_given (s ∷ ss) o k = by_states (λ h. longer s ss o (is_given ss o h)) (search_along p hypotheses marks ss).states refl k
    where
      by_states : (Contains (found_behind ss) o → IsGiven (s ∷ ss) o) → (x : Option States) → (search_along p hypotheses marks ss).states ≡ x
          → Contains (with_step p hypotheses (kept_behind ss) s x (found_behind ss)) o → IsGiven (s ∷ ss) o
      by_states before None is h = before h
      by_states before (Some states) is h = elim (in_each hypotheses (kept_behind ss) (place_of s) states (given_by p s) (found_behind ss) o h) [
        | inl old ↦ before old
        | inr new ↦ record {
          front = [];
          step = s;
          back = ss;
          parts = refl;
          states = sym (same_states ss) ∙ is ∙ ap Some new.names;
          new = subst (λ named. IsNew hypotheses (kept_behind ss) (place_of s) named (found_behind ss) (given_by p s) o) new.names new;
        }
      ]
