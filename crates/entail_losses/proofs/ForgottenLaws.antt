-- What is found to be forgotten: each is a part of what one of the steps gives.
use Rattle.std.proofs.Common.{◌≡◌, ℕ, List, [], ◌∷◌, ◌++◌, length, map, Bool, true, false, Option, ◌⊎◌, inl, inr, refl, ◌∙◌, ap, subst, if◌then◌else◌, Contains, arith}
use Rattle.std.specs.Prelude.{◌&&◌, not, nat_lt}
use Rattle.std.proofs.lemmas.Bool.{and_parts, not-true, or_left, or_right}
use Rattle.std.proofs.lemmas.List.Elements.{Contains-append_left, Contains-append_right, Contains-push, Contains-push_cases}
use Rattle.cov_expr.proofs.Tests.{left_true, right_true}
use Rattle.cov_expr.proofs.Trees.{has_term_append, same_refl}
use Rattle.cov_expr.specs.declared.expr.Op.TheVariants.{Both}
use Rattle.cov_expr.specs.Term.{Term, bin}
use Rattle.cov_expr.specs.Trees.{conjuncts, has_conjunct, has_term, is_closed, same}
use Rattle.cov_ast.specs.Plain.{Plain}
use Rattle.cov_ast.specs.Tables.{has}
use Rattle.entail_losses.specs.Forgotten.{ForgottenPart, forgotten_at, forgotten_parts, is_forgotten, untouched_along, with_part, with_parts, with_whole, with_wholes}
use Rattle.entail_losses.specs.LeftOut.{LeftOut, is_known}
use Rattle.entail_origins.specs.Origins.{Given, at_place, given_by}
use Rattle.entail_losses.specs.WouldBeKnown.{first_state}
use Rattle.entail_origins.specs.declared.hypothesis_origin.Origin.{Origin}
use Rattle.entail_losses.specs.declared.left_out_found.TheConstants.{MOST_FOUND}
use Rattle.entail_losses.specs.declared.left_out_states.StateAt.{StateAt}
use Rattle.point_law.specs.Terms.{each_variable}
use Rattle.statement_paths.specs.Paths.{Step, place_of}

-- a part over kept variables that isn't known
pub record IsMissingPart (hypotheses : List Term) (kept : List Bool) (e : Term) : Type 0 where
  pub over : each_variable (has kept) e ≡ true
  pub unknown : is_known hypotheses e ≡ false

-- a part of a predicate that was forgotten, from this origin and with this first state
pub record IsNewPart (hypotheses : List Term) (kept : List Bool) (origin : Origin) (state : Option StateAt) (whole : Term) (f : ForgottenPart) : Type 0 where
  pub same_origin : origin ≡ f.origin
  pub same_state : state ≡ f.state
  pub is_part : has_conjunct whole f.part ≡ true
  pub missing : IsMissingPart hypotheses kept f.part

-- a part of one of these predicates, of which a store forgot the whole
pub record IsOfWhole (hypotheses : List Term) (steady kept : List Bool) (at : ℕ) (state : Option StateAt) (gs : List Given) (f : ForgottenPart) : Type 0 where
  pub whole : Given
  pub gives : Contains gs whole
  pub is_steady : each_variable (has steady) whole.term ≡ true
  pub not_kept : each_variable (has kept) whole.term ≡ false
  pub part : IsNewPart hypotheses kept (at_place at whole.source) state whole.term f

module _ (hypotheses : List Term) (left_out : List LeftOut) where
  -- One predicate ------------------------------------------------------------------------------------------------

  module _ (kept : List Bool) (origin : Origin) (state : Option StateAt) (whole : Term) where
    abbrev New : ForgottenPart → Type 0
    New f = IsNewPart hypotheses kept origin state whole f

    one_part : (e : Term) (found : List ForgottenPart) → is_forgotten hypotheses left_out kept found e ≡ true → IsMissingPart hypotheses kept e
    one_part e found h =
        let few = nat_lt (length found) MOST_FOUND in
        let not_closed = not (is_closed e) in
        let over = each_variable (has kept) e in
        let unknown = not (is_known hypotheses e) in
        let untold = not (has_term (map (λ o. o.term) left_out) e) in
        let another = not (has_term (map (λ f. f.part) found) e) in
        let four = left_true (few && not_closed && over && unknown) untold (left_true (few && not_closed && over && unknown && untold) another h) in
        record {
          over = right_true (few && not_closed) over (left_true (few && not_closed && over) unknown four);
          unknown = not-true (is_known hypotheses e) (right_true (few && not_closed && over) unknown four);
        }

    -- what is found with a part was found before, or is that one
    in_part : (e : Term) (found : List ForgottenPart) (f : ForgottenPart) → has_conjunct whole e ≡ true
        → Contains (with_part hypotheses left_out kept origin state e found) f → Contains found f ⊎ New f
    in_part e found f part k = by_case (is_forgotten hypotheses left_out kept found e) refl k
      where
        by_case : (b : Bool) → is_forgotten hypotheses left_out kept found e ≡ b
            → Contains (if b then found ++ forgotten_at origin state e ∷ [] else found) f → Contains found f ⊎ New f
        by_case true is h = elim (Contains-push_cases found (forgotten_at origin state e) f h) [
          | inl old ↦ inl old
          | inr same ↦ inr (subst New same (record { same_origin = refl; same_state = refl; is_part = part; missing = one_part e found is }))
        ]
        by_case false is h = inl h

    in_parts : (e : Term) → ((c : Term) → has_conjunct e c ≡ true → has_conjunct whole c ≡ true) → (found : List ForgottenPart) (f : ForgottenPart)
        → Contains (with_parts hypotheses left_out kept origin state e found) f → Contains found f ⊎ New f
    in_parts (bin Both a b) within found f k =
        let left : (c : Term) → has_conjunct a c ≡ true → has_conjunct whole c ≡ true
        = λ c h. within c (has_term_append (conjuncts a) (conjuncts b) c ∙ or_left (has_conjunct a c) (has_conjunct b c) h) in
        let right : (c : Term) → has_conjunct b c ≡ true → has_conjunct whole c ≡ true
        = λ c h. within c (has_term_append (conjuncts a) (conjuncts b) c ∙ or_right (has_conjunct a c) (has_conjunct b c) h) in
        elim (in_parts b right (with_parts hypotheses left_out kept origin state a found) f k) [
          | inl so_far ↦ in_parts a left found f so_far
          | inr new ↦ inr new
        ]
    in_parts e within found f k = in_part e found f (within e (or_left (same e e) false (same_refl e))) k

  -- Those of one step ---------------------------------------------------------------------------------------------

  module _ (steady kept : List Bool) (at : ℕ) (state : Option StateAt) where
    abbrev Of : List Given → ForgottenPart → Type 0
    Of gs f = IsOfWhole hypotheses steady kept at state gs f

    abbrev passes : Given → Bool
    passes g = each_variable (has steady) g.term && not (each_variable (has kept) g.term) && not (is_known hypotheses g.term)

    in_whole : (g : Given) (found : List ForgottenPart) (f : ForgottenPart) → Contains (with_whole hypotheses left_out steady kept at state g found) f
        → Contains found f ⊎ Of (g ∷ []) f
    in_whole g found f k = by_case (passes g) refl k
      where
        by_case : (b : Bool) → passes g ≡ b
            → Contains (if b then with_parts hypotheses left_out kept (at_place at g.source) state g.term found else found) f → Contains found f ⊎ Of (g ∷ []) f
        by_case true is h = elim (in_parts kept (at_place at g.source) state g.term g.term (λ c i. i) found f h) [
          | inl old ↦ inl old
          | inr part ↦
              let forgot = each_variable (has steady) g.term && not (each_variable (has kept) g.term) in
              let both = and_parts (each_variable (has steady) g.term) (not (each_variable (has kept) g.term)) (left_true forgot (not (is_known hypotheses g.term)) is) in
              inr (record { whole = g; gives = Contains-push [] g; is_steady = both.0; not_kept = not-true (each_variable (has kept) g.term) both.1; part = part })
        ]
        by_case false is h = inl h

    wider : (gs hs : List Given) (f : ForgottenPart) → ((g : Given) → Contains gs g → Contains hs g) → Of gs f → Of hs f
    wider gs hs f more new = record {
      whole = new.whole;
      gives = more new.whole new.gives;
      is_steady = new.is_steady;
      not_kept = new.not_kept;
      part = new.part;
    }

    in_wholes : (gs : List Given) (found : List ForgottenPart) (f : ForgottenPart) → Contains (with_wholes hypotheses left_out steady kept at state gs found) f
        → Contains found f ⊎ Of gs f
    in_wholes [] found f k = inl k
    in_wholes (g ∷ gs) found f k =
        elim (in_wholes gs (with_whole hypotheses left_out steady kept at state g found) f k) [
          | inl so_far ↦ elim (in_whole g found f so_far) [
            | inl old ↦ inl old
            | inr new ↦ inr (wider (g ∷ []) (g ∷ gs) f (λ h. Contains-append_left (g ∷ []) gs h) new)
          ]
          | inr later ↦ inr (wider gs (g ∷ gs) f (λ h. Contains-append_right (g ∷ []) gs h) later)
        ]

  -- Several steps --------------------------------------------------------------------------------------------------

  module _ (p : Plain) (stable : List Bool) where
    -- one of the steps gives the whole
    pub record IsPartGiven (ss : List Step) (f : ForgottenPart) : Type 0 where
      pub front : List Step
      pub step : Step
      pub back : List Step
      pub parts : ss ≡ front ++ step ∷ back
      pub new : IsOfWhole hypotheses (untouched_along p false stable back) (untouched_along p true stable back) (place_of step) (first_state back) (given_by p step) f

    longer : (s : Step) (ss : List Step) (f : ForgottenPart) → IsPartGiven ss f → IsPartGiven (s ∷ ss) f
    longer s ss f found = record {
      front = s ∷ found.front;
      step = found.step;
      back = found.back;
      parts = ap (λ rest. s ∷ rest) found.parts;
      new = found.new;
    }

    pub part_is_given : (ss : List Step) (f : ForgottenPart) → Contains (forgotten_parts hypotheses left_out p stable ss) f → IsPartGiven ss f
    part_is_given [] f k = let inside = k.1 in absurd (omega arith)
    part_is_given (s ∷ ss) f k =
        elim (in_wholes (untouched_along p false stable ss) (untouched_along p true stable ss) (place_of s) (first_state ss) (given_by p s) (forgotten_parts hypotheses left_out p stable ss) f k) [
          | inl old ↦ longer s ss f (part_is_given ss f old)
          | inr new ↦ record { front = []; step = s; back = ss; parts = refl; new = new }
        ]
