-- What was left out would be known at the point, did the states list it, and none of these does.
use Rattle.std.proofs.Common.{◌≡◌, ℕ, List, [], ◌∷◌, ◌++◌, append-nil, Bool, true, false, Option, Some, None, inl, inr, refl, sym, ◌∙◌, ap, subst, Contains, true≢false}
use Rattle.std.specs.Option.{option_or}
use Rattle.std.proofs.lemmas.Bool.{cases_Bool, or_cases}
use Rattle.std.proofs.lemmas.List.Elements.{Contains-append_left, Contains-append_right, Contains-push}
use Rattle.cov_expr.proofs.Trees.{has_term_append, same_is}
use Rattle.cov_expr.specs.Term.{Term, neg}
use Rattle.cov_expr.specs.Trees.{has_term, is_closed, same}
use Rattle.cov_ast.specs.Plain.{Plain}
use Rattle.cov_ast.specs.Syntax.{skip, branch, loop, note}
use Rattle.cov_ast.specs.Tables.{has}
use Rattle.statement_paths.proofs.HeldAtPoints.{after_held}
use Rattle.cov_ast.specs.LocksAlong.{no_locks}
use Rattle.statement_paths.specs.LocksHeld.{held_after, held_along}
use Rattle.statement_paths.specs.VariableSets.{stable, stable_after_steps}
use Rattle.entail_origins.specs.Origins.{Given, given, each, given_by}
use Rattle.typing_points.proofs.PointLaws.{appended}
use Rattle.typing_points.specs.Points.{after_step, after_steps, point_after_steps}
use Rattle.entail_origins.specs.declared.hypothesis_origin.HypothesisSource.{HypothesisSource}
use Rattle.entail_origins.specs.declared.hypothesis_origin.HypothesisSource.TheVariants as by
use Rattle.mode_state.specs.Sets.{is_stable}
use Rattle.statement_paths.specs.Paths.{Step, passed, yes, no, head}
use Rattle.point_law.specs.After.{start}
use Rattle.point_law.specs.Point.{Point, is_over_stable}
use Rattle.point_law.specs.Terms.{each_variable}
use Rattle.entail_losses.specs.LeftOut.{LeftOut, left_out, search_along, gives_nothing, is_known, state_of_step, states_of_steps}
use Rattle.entail_losses.specs.WouldBeKnown.{WouldBeKnown, first_state, listed_by, predicates_of_step, listing, step_with}
use Rattle.entail_losses.specs.declared.left_out_states.StateAt.{StateAt}
use Rattle.entail_losses.specs.declared.left_out_states.States.{States}
use Rattle.entail_losses.proofs.FoundLaws.{IsFresh, first_is, first_of, found_behind, found_in_step, fresh_step, is_given, not_among}
use Rattle.entail_losses.proofs.StableLaws.{kept_before, kept_of, stable_in_front}
use Rattle.entail_losses.proofs.StepLaws.{Knows, each_more, gives, keeps}

some_state : {state : StateAt} → Some state ≡ None → ⊥
some_state h = let c : ◌≡◌ {A = Option StateAt} (Some _) None = h in cc

-- Locks at points ------------------------------------------------------------------------------------------------

module _ (p : Plain) (t : ℕ) where
  pub held_step : (s : Step) (a : Point) → held_after s a.held ≡ (after_step p t s a).held
  held_step (passed at s) a = after_held p t s a
  held_step (yes at e) a = refl
  held_step (no at e) a = refl
  held_step (head at inv) a = refl

  -- what states list changes no locks
  pub held_listing : (e : Term) (s : Step) (a : Point) → (after_step p t (step_with e s) a).held ≡ (after_step p t s a).held
  held_listing e (passed at skip) a = refl
  held_listing e (yes at g) a = refl
  held_listing e (no at g) a = refl
  held_listing e (head at inv) a = refl
  held_listing e (passed at _) a = refl

  pub held_steps : (ss : List Step) (a : Point) → held_along ss a.held ≡ (after_steps p t ss a).held
  held_steps [] a = refl
  held_steps (s ∷ ss) a = ap (held_along ss) (held_step s a) ∙ held_steps ss (after_step p t s a)

  pub held_joined : (front back : List Step) (held : List Bool) → held_along (front ++ back) held ≡ held_along back (held_along front held)
  held_joined [] back held = refl
  held_joined (s ∷ front) back held = held_joined front back (held_after s held)

-- Known to the point ---------------------------------------------------------------------------------------------

module _ (p : Plain) (t : ℕ) (hypotheses : List Term) where
  abbrev pub IsKept : (held : List Bool) → List Step → Term → Type 0
  IsKept held ss e = each_variable (has (kept_of p t hypotheses held ss ss)) e ≡ true

  stable_at : (ss : List Step) (held : List Bool) (e : Term) → IsKept held ss e → is_over_stable p t held e ≡ true
  stable_at ss held e over = each_more (has (kept_of p t hypotheses held ss ss)) (is_stable p t held) (stable_in_front p t hypotheses ss held) e over

  pub stays : (so_far rest : List Step) (a : Point) (e : Term) → IsKept a.held (so_far ++ rest) e → Knows p t a e → Knows p t (after_steps p t (listing e so_far) a) e
  stays [] rest a e over k = k
  stays (s ∷ so_far) rest a e over k =
      let ss = so_far ++ rest in
      let kept = kept_of p t hypotheses (held_after s a.held) ss ss in
      let next = after_step p t (step_with e s) a in
      let later : IsKept (held_after s a.held) ss e
      = each_more (has (kept_of p t hypotheses a.held (s ∷ ss) (s ∷ ss))) (has kept) (kept_before p t hypotheses s ss a.held) e over in
      let stable : is_over_stable p t (after_step p t s a).held e ≡ true
      = subst (λ held. is_over_stable p t held e ≡ true) (held_step p t s a) (stable_at ss (held_after s a.held) e later) in
      let there : IsKept next.held ss e = subst (λ held. IsKept held ss e) (held_step p t s a ∙ sym (held_listing p t e s a)) later in
      stays so_far rest next e there (keeps p t s a e kept over stable k)

-- What states list -----------------------------------------------------------------------------------------------

-- a predicate that a step gives, and that is over other variables than an assignment's own
pub record IsGivenTerm (p : Plain) (s : Step) (e : Term) : Type 0 where
  pub source : HypothesisSource
  pub there : Contains (given_by p s) (given source e)
  pub gives_some : gives_nothing source e ≡ false

among : (source : HypothesisSource) (es : List Term) (e : Term) → has_term es e ≡ true → Contains (each source es) (given source e)
among source [] e h = absurd (true≢false (sym h))
among source (f ∷ fs) e h = elim (or_cases (same f e) (has_term fs e) h) [
  | inl first ↦ Contains-append_left (given source f ∷ []) (each source fs) (given source e)
      (subst (λ g. Contains (given source f ∷ []) (given source g)) (same_is f e first) (Contains-push [] (given source f)))
  | inr later ↦ Contains-append_right (given source f ∷ []) (each source fs) (given source e) (among source fs e later)
]

-- what a step lists it gives
listed_is_given : (p : Plain) (s : Step) (e : Term) → has_term (predicates_of_step s) e ≡ true → IsGivenTerm p s e
listed_is_given p (passed at skip) e h = absurd (true≢false (sym h))
listed_is_given p (passed at (branch g a b join)) e h = record { source = by.Join; there = among by.Join join.preds e h; gives_some = refl }
listed_is_given p (passed at (loop g inv b)) e h = record {
  source = by.LoopState;
  there = Contains-append_right (given by.LoopLeft (neg g) ∷ []) (each by.LoopState inv.preds) (given by.LoopState e) (among by.LoopState inv.preds e h);
  gives_some = refl;
}
listed_is_given p (passed at (note j)) e h = record { source = by.Noted; there = among by.Noted j.preds e h; gives_some = refl }
listed_is_given p (passed at _) e h = absurd (true≢false (sym h))
listed_is_given p (yes at g) e h = absurd (true≢false (sym h))
listed_is_given p (no at g) e h = absurd (true≢false (sym h))
listed_is_given p (head at inv) e h = record { source = by.LoopState; there = among by.LoopState inv.preds e h; gives_some = refl }

-- a step without a state is the same with a predicate more
pub unstated : (e : Term) (s : Step) → state_of_step s ≡ None → step_with e s ≡ s
unstated e (passed at skip) h = refl
unstated e (passed at (branch g a b join)) h = absurd (some_state h)
unstated e (passed at (loop g inv b)) h = absurd (some_state h)
unstated e (passed at (note j)) h = absurd (some_state h)
unstated e (yes at g) h = refl
unstated e (no at g) h = refl
unstated e (head at inv) h = absurd (some_state h)
unstated e (passed at _) h = refl

-- where there is no state, the first step has none, and neither have the others
pub none_first : (x y : Option StateAt) → option_or x y ≡ None → (x ≡ None) × (y ≡ None)
none_first None y h = (refl, h)
none_first (Some state) y h = absurd (some_state h)

no_listing : (e : Term) (ss : List Step) → first_state ss ≡ None → listing e ss ≡ ss
no_listing e [] h = refl
no_listing e (s ∷ ss) h =
    let both = none_first (state_of_step s) (first_state ss) h in
    λ i. unstated e s both.0 i ∷ no_listing e ss both.1 i

module _ (p : Plain) (t : ℕ) (hypotheses : List Term) where
  abbrev marks_at : (held : List Bool) → List Step → List Bool
  marks_at held ss = stable p t (held_along ss held)

  -- what a step gives and later steps keep is known behind them, where none of them has a state
  without_states : (s : Step) (ss : List Step) (a : Point) (g : Given) → first_state ss ≡ None → Contains (given_by p s) g → gives_nothing g.source g.term ≡ false
      → IsKept p t hypotheses (after_step p t s a).held ss g.term → Knows p t (after_steps p t ss (after_step p t s a)) g.term
  without_states s ss a g none there some over =
      let next = after_step p t s a in
      let first : Knows p t next g.term = gives p t s a g there some (stable_at p t hypotheses ss next.held g.term over) in
      subst (λ steps. Knows p t (after_steps p t steps next) g.term) (no_listing g.term ss none)
      (stays p t hypotheses ss [] next g.term (subst (λ steps. IsKept p t hypotheses next.held steps g.term) (sym (append-nil ss)) over) first)

  -- What isn't found, although it is over kept variables and no hypothesis, and a state lists it, is known at the point.
  listed_is_known : (ss : List Step) (a : Point) (e : Term) → is_closed e ≡ false → is_known hypotheses e ≡ false → IsKept p t hypotheses a.held ss e
      → IsFresh (found_behind p hypotheses (marks_at a.held ss) ss) e → has_term (listed_by ss) e ≡ true → Knows p t (after_steps p t ss a) e
  listed_is_known [] a e not_closed unknown over fresh listed = absurd (true≢false (sym listed))
  listed_is_known (s ∷ ss) a e not_closed unknown over fresh listed =
      let marks = marks_at (held_after s a.held) ss in
      let later : IsKept p t hypotheses (held_after s a.held) ss e
      = each_more (has (kept_of p t hypotheses a.held (s ∷ ss) (s ∷ ss))) (has (kept_of p t hypotheses (held_after s a.held) ss ss)) (kept_before p t hypotheses s ss a.held) e over in
      let there : IsKept p t hypotheses (after_step p t s a).held ss e = subst (λ held. IsKept p t hypotheses held ss e) (held_step p t s a) later in
      let fewer : IsFresh (found_behind p hypotheses (marks_at (after_step p t s a).held ss) ss) e
      = subst (λ held. IsFresh (found_behind p hypotheses (marks_at held ss) ss) e) (held_step p t s a) (fresh_step p hypotheses marks s ss e fresh) in
      elim (or_cases (has_term (predicates_of_step s) e) (has_term (listed_by ss) e) (sym (has_term_append (predicates_of_step s) (listed_by ss) e) ∙ listed)) [
        | inl here ↦
            given_here there
            (λ states g some. found_in_step p hypotheses marks s ss states (given g.source e) some g.there g.gives_some
            (record { not_closed = not_closed; over = later; unknown = unknown }) fresh)
            (listed_is_given p s e here) (states_of_steps ss) refl
        | inr behind ↦ listed_is_known ss (after_step p t s a) e not_closed unknown there fewer behind
      ]
    where
      given_here : IsKept p t hypotheses (after_step p t s a).held ss e → ((states : States) → IsGivenTerm p s e → states_of_steps ss ≡ Some states → ⊥)
          → IsGivenTerm p s e → (y : Option States) → states_of_steps ss ≡ y → Knows p t (after_steps p t ss (after_step p t s a)) e
      given_here there found g None none = without_states s ss a (given g.source e) (first_is ss ∙ ap first_of none) g.there g.gives_some there
      given_here there found g (Some states) some = absurd (found states g some)

-- The law --------------------------------------------------------------------------------------------------------

pub would_be_known : (p : Plain) (t : ℕ) (steps : List Step) (hypotheses : List Term) (o : LeftOut)
    → Contains (left_out p hypotheses (stable_after_steps p t steps) steps) o → WouldBeKnown p t steps hypotheses o
would_be_known p t steps hypotheses o k =
    let found = is_given p hypotheses (stable_after_steps p t steps) steps o k in
    let front = found.front in
    let step = found.step in
    let back = found.back in
    let missing = found.new.missing in
    let before = point_after_steps p t front in
    let next = after_step p t step before in
    let held : held_along steps (no_locks p) ≡ held_along back next.held
    = ap (λ ss. held_along ss (no_locks p)) found.parts ∙ held_joined p t front (step ∷ back) (no_locks p)
    ∙ ap (held_along (step ∷ back)) (held_steps p t front (start p t)) ∙ ap (held_along back) (held_step p t step before) in
    let over : IsKept p t hypotheses next.held back o.term
    = subst (λ locks. each_variable (has (search_along p hypotheses (stable p t locks) back).kept) o.term ≡ true) held missing.over in
    let fresh : IsFresh (found_behind p hypotheses (stable p t (held_along back next.held)) back) o.term
    = subst (λ locks. IsFresh (found_behind p hypotheses (stable p t locks) back) o.term) held found.new.fresh in
    let there : Knows p t next o.term
    = gives p t step before (given o.origin.source o.term) found.new.gives found.new.gives_some (stable_at p t hypotheses back next.held o.term over) in
    record {
      unknown = not_among hypotheses o.term missing.unknown;
      front = front;
      step = step;
      back = back;
      parts = found.parts;
      placed = found.new.placed;
      gives = found.new.gives;
      first = first_is back ∙ ap first_of found.states;
      states = found.states;
      unlisted = λ among. elim (cases_Bool (has_term (listed_by back) o.term)) [
        | inl listed ↦
            let known : Knows p t (after_steps p t back next) o.term
            = listed_is_known p t hypotheses back next o.term missing.not_closed missing.unknown over fresh listed in
            let end : point_after_steps p t steps ≡ after_steps p t back next
            = ap (point_after_steps p t) found.parts ∙ appended p t front (step ∷ back) (start p t) in
            absurd (true≢false (sym (among o.term (subst (λ a. Knows p t a o.term) (sym end) known)) ∙ not_among hypotheses o.term missing.unknown))
        | inr other ↦ other
      ];
      stays = λ so_far rest same.
          let at : point_after_steps p t ((front ++ step ∷ []) ++ listing o.term so_far) ≡ after_steps p t (listing o.term so_far) next
          = appended p t (front ++ step ∷ []) (listing o.term so_far) (start p t)
          ∙ ap (after_steps p t (listing o.term so_far)) (appended p t front (step ∷ []) (start p t)) in
          subst (λ a. Knows p t a o.term) (sym at)
          (stays p t hypotheses so_far rest next o.term (subst (λ ss. IsKept p t hypotheses next.held ss o.term) same over) there);
    }
