-- What is taken as known of a variable behind steps is known at the point, so that something is told of each variable that no hypothesis mentions.
use Rattle.std.proofs.Common.{◌≡◌, ℕ, ◌==◌, List, [], ◌∷◌, ◌++◌, Bool, true, false, Option, Some, None, refl, sym, ◌∙◌, ap, subst, filter, if◌then◌else◌, inl, inr, true≢false}
use Rattle.std.specs.Prelude.{◌&&◌, ◌||◌, not}
use Rattle.std.proofs.lemmas.Bool.{and_parts, and_from, eq-eqb, eqb-true, or_cases, or_left, or_right}
use Rattle.cov_expr.proofs.Trees.{same_is, same_refl}
use Rattle.cov_expr.specs.declared.expr.Op.TheVariants.{Eq}
use Rattle.cov_expr.specs.Term.{Term, const, var, neg, bin}
use Rattle.cov_expr.specs.Trees.{has_term, mentions, occurrences, same}
use Rattle.cov_ast.specs.Declarations.{lists, lock_at}
use Rattle.cov_ast.specs.Plain.{Plain}
use Rattle.cov_ast.specs.Syntax.{Lock, State, Stm, assign, lock, branch, loop, note}
use Rattle.cov_ast.specs.Tables.{first_outside, has}
use Rattle.typing_points.specs.Points.{after_step, after_steps, point_after_steps}
use Rattle.entail_origins.specs.declared.hypothesis_origin.HypothesisSource.{HypothesisSource}
use Rattle.entail_losses.specs.About.{is_statement_about, is_mentioned}
use Rattle.entail_losses.specs.LeftOut.{state_at}
use Rattle.entail_losses.specs.Unknowns as u
use Rattle.entail_losses.specs.Unknowns.{Fact, Reason, unmentioned, own, no_equation, no_guard, unlisted, taken, known, forgotten, fact_at, equation, first_about, listed_or, reason}
use Rattle.entail_losses.specs.WouldBeKnown.{AreAmong}
use Rattle.entail_losses.specs.declared.left_out_states.StateKind.{StateKind}
use Rattle.entail_losses.specs.declared.left_out_states.StateKind.TheVariants.{Join, Inv, Note}
use Rattle.entail_losses.proofs.KnownLaws.{held_step}
use Rattle.entail_losses.proofs.StableLaws.{in_table}
use Rattle.entail_losses.proofs.StepLaws.{each_more, in_distinct, in_filter, is_with, is_with_if, known_where_returned, stays_with, stays_with_if}
use Rattle.mode_state.specs.Sets.{is_stable}
use Rattle.point_law.specs.After.{keeps_value, start, with_term_if}
use Rattle.point_law.specs.Point.{Point, is_over_stable}
use Rattle.point_law.specs.Terms.{each_variable, distinct_terms, with_option, with_term}
use Rattle.statement_parts.specs.Parts.{parts}
use Rattle.statement_paths.specs.Paths.{Step, passed, yes, no, head}
use Rattle.statement_paths.specs.VariableSets.{stable}

-- Sets ---------------------------------------------------------------------------------------------------------

some_number : {x : ℕ} → Some x ≡ None → ⊥
some_number h = let c : ◌≡◌ {A = Option ℕ} (Some _) None = h in cc

some_term : {e : Term} → None ≡ Some e → ⊥
some_term h = let c : ◌≡◌ {A = Option Term} None (Some _) = h in cc

same_some : {e g : Term} → Some g ≡ Some e → g ≡ e
same_some h = let c : ◌≡◌ {A = Option Term} (Some _) (Some _) = h in cc

none_in_parts : (marks : List Bool) (xs ys : List ℕ) → first_outside marks (xs ++ ys) ≡ None → (first_outside marks xs ≡ None) × (first_outside marks ys ≡ None)
none_in_parts marks [] ys h = (refl, h)
none_in_parts marks (x ∷ xs) ys h = by_case (none_in_parts marks xs ys) (has marks x) h
  where
    by_case : (first_outside marks (xs ++ ys) ≡ None → (first_outside marks xs ≡ None) × (first_outside marks ys ≡ None)) → (b : Bool)
        → (if b then first_outside marks (xs ++ ys) else Some x) ≡ None → ((if b then first_outside marks xs else Some x) ≡ None) × (first_outside marks ys ≡ None)
    by_case rest true k = rest k
    by_case rest false k = absurd (some_number k)

-- where no variable is outside of a set, each is in it
all_inside : (marks : List Bool) (e : Term) → first_outside marks (occurrences e) ≡ None → each_variable (has marks) e ≡ true
all_inside marks (const k) h = refl
all_inside marks (var x) h = by_case (has marks x) h
  where
    by_case : (b : Bool) → (if b then None else Some x) ≡ None → b ≡ true
    by_case true k = refl
    by_case false k = absurd (some_number k)
all_inside marks (neg e) h = all_inside marks e h
all_inside marks (bin op a b) h =
    let both = none_in_parts marks (occurrences a) (occurrences b) h in
    and_from (each_variable (has marks) a) (each_variable (has marks) b) (all_inside marks a both.0) (all_inside marks b both.1)

-- What is taken as known ---------------------------------------------------------------------------------------

module _ (x : ℕ) where
  -- of these predicates: one that is taken as known is among them, and mentions the variable
  abbrev pub IsKnown : List Term → Reason → Type 0
  IsKnown es unmentioned = Unit {0}
  IsKnown es (own at) = Unit {0}
  IsKnown es (no_equation at y) = Unit {0}
  IsKnown es (no_guard at y) = Unit {0}
  IsKnown es (unlisted s) = Unit {0}
  IsKnown es (taken at l) = Unit {0}
  IsKnown es (known f) = (has_term es f.term ≡ true) × (mentions f.term x ≡ true)
  IsKnown es (forgotten f loss) = Unit {0}

  either : (es : List Term) (b : Bool) (first second : Reason) → (b ≡ true → IsKnown es first) → (b ≡ false → IsKnown es second) → IsKnown es (if b then first else second)
  either es true first second k m = k refl
  either es false first second k m = m refl

  by_stability : (es : List Term) (o : Option ℕ) (f : Fact) (otherwise : ℕ → Reason) → (o ≡ None → IsKnown es (known f)) → ((y : ℕ) → IsKnown es (otherwise y))
      → IsKnown es (u.by_stability o f otherwise)
  by_stability es None f otherwise k m = k refl
  by_stability es (Some y) f otherwise k m = m y

  unless_known : (es : List Term) (r other : Reason) → IsKnown es r → IsKnown es other → IsKnown es (u.unless_known r other)
  unless_known es unmentioned other k m = m
  unless_known es (own at) other k m = m
  unless_known es (no_equation at y) other k m = m
  unless_known es (no_guard at y) other k m = m
  unless_known es (unlisted s) other k m = m
  unless_known es (taken at l) other k m = m
  unless_known es (known f) other k m = k
  unless_known es (forgotten f loss) other k m = m

  -- with further predicates
  more : (es fs : List Term) → ((e : Term) → has_term es e ≡ true → has_term fs e ≡ true) → (r : Reason) → IsKnown es r → IsKnown fs r
  more es fs all unmentioned k = tt
  more es fs all (own at) k = tt
  more es fs all (no_equation at y) k = tt
  more es fs all (no_guard at y) k = tt
  more es fs all (unlisted s) k = tt
  more es fs all (taken at l) k = tt
  more es fs all (known f) k = (all f.term k.0, k.1)
  more es fs all (forgotten f loss) k = tt

  stored : (at y : ℕ) (es : List Term) (r : Reason) → IsKnown es r → IsKnown (filter (λ g. not (mentions g y)) es) (u.after_store at y r)
  stored at y es unmentioned k = tt
  stored at y es (own at') k = tt
  stored at y es (no_equation at' z) k = tt
  stored at y es (no_guard at' z) k = tt
  stored at y es (unlisted s) k = tt
  stored at y es (taken at' l) k = tt
  stored at y es (known f) k =
      either (filter (λ g. not (mentions g y)) es) (mentions f.term y) _ (known f) (λ m. tt) (λ m. (in_filter (λ g. not (mentions g y)) es f.term (ap not m) k.0, k.1))
  stored at y es (forgotten f loss) k = tt

  first_is : (es : List Term) (e : Term) → first_about x es ≡ Some e → (has_term es e ≡ true) × (mentions e x ≡ true)
  first_is [] e h = absurd (some_term h)
  first_is (g ∷ es) e h = by_case (first_is es e) (mentions g x) refl h
    where
      by_case : (first_about x es ≡ Some e → (has_term es e ≡ true) × (mentions e x ≡ true)) → (b : Bool) → mentions g x ≡ b → (if b then Some g else first_about x es) ≡ Some e
          → ((same g e || has_term es e) ≡ true) × (mentions e x ≡ true)
      by_case rest true m k =
          let is : g ≡ e = same_some k in
          (or_left (same g e) (has_term es e) (ap (same g) (sym is) ∙ same_refl g), ap (λ z. mentions z x) (sym is) ∙ m)
      by_case rest false m k = let there = rest k in (or_right (same g e) (has_term es e) there.0, there.1)

  listed : (o : Option Term) (source : HypothesisSource) (at : ℕ) (otherwise : Reason) (es : List Term)
      → ((e : Term) → o ≡ Some e → (has_term es e ≡ true) × (mentions e x ≡ true)) → IsKnown es otherwise → IsKnown es (listed_or o source at otherwise)
  listed None source at otherwise es h k = k
  listed (Some e) source at otherwise es h k = h e refl

  -- of a state
  stated : (source : HypothesisSource) (at : ℕ) (j : State) (otherwise : Reason) → IsKnown (distinct_terms j.preds) otherwise
      → IsKnown (distinct_terms j.preds) (u.after_state x source at j otherwise)
  stated source at j otherwise k =
      listed (first_about x j.preds) source at otherwise (distinct_terms j.preds)
      (λ e h. let there = first_is j.preds e h in (in_distinct j.preds e there.0, there.1)) k

  -- behind one that lists nothing of it, nothing is taken as known
  behind : (es : List Term) (kind : StateKind) (at : ℕ) (r : Reason) → IsKnown es (u.behind_state kind at r)
  behind es kind at unmentioned = tt
  behind es kind at (own at') = tt
  behind es kind at (no_equation at' y) = tt
  behind es kind at (no_guard at' y) = tt
  behind es kind at (unlisted s) = tt
  behind es kind at (taken at' l) = tt
  behind es kind at (known f) = tt
  behind es kind at (forgotten f loss) = tt

  past_blocks : (p : Plain) (es : List Term) (kind : StateKind) (at : ℕ) (s : Stm) (r : Reason) → IsKnown es (u.behind_blocks x p kind at s r)
  past_blocks p es kind at s r = either es (is_statement_about p x s) (unlisted (state_at kind at)) (u.behind_state kind at r) (λ m. tt) (λ m. behind es kind at r)

  -- of a lock that is taken
  invariant : (o : Option Term) (at l : ℕ) (es : List Term) (otherwise : Reason) → IsKnown es otherwise
      → IsKnown (with_option es o) (u.by_invariant x o at l otherwise)
  invariant None at l es otherwise k = k
  invariant (Some e) at l es otherwise k =
      either (with_term es e) (mentions e x) _ otherwise (λ m. (is_with es e, m)) (λ m. more es (with_term es e) (λ g. stays_with es e g) otherwise k)

  locked : (k : Lock) (at l : ℕ) (es : List Term) (r : Reason) → IsKnown es r → IsKnown (with_option es k.inv) (u.after_lock x k at l r)
  locked k at l es r there =
      invariant k.inv at l es (u.if_listed x k at l r) (either es (lists k x && not (u.is_tested_before x r)) (taken at l) r (λ m. tt) (λ m. there))

  -- of points of a thread
  module _ (p : Plain) (t : ℕ) (held : List Bool) where
    stable_now : (e : Term) → each_variable (has (stable p t held)) e ≡ true → is_over_stable p t held e ≡ true
    stable_now e over = each_more (has (stable p t held)) (is_stable p t held) (λ y. in_table _ (is_stable p t held) y) e over

    all_stable : (e : Term) → first_outside (stable p t held) (occurrences e) ≡ None → is_over_stable p t held e ≡ true
    all_stable e h = stable_now e (all_inside (stable p t held) e h)

    guarded : (at : ℕ) (source : HypothesisSource) (e : Term) (es : List Term) (r : Reason) → IsKnown es r
        → IsKnown (with_term_if (is_over_stable p t held e) es e) (u.after_guard x (stable p t held) at source e r)
    guarded at source e es r k =
        let over = is_over_stable p t held e in
        let fs = with_term_if over es e in
        let later : IsKnown fs r = more es fs (λ g. stays_with_if over es e g) r k in
        either fs (mentions e x) _ r
        (λ m. by_stability fs (first_outside (stable p t held) (occurrences e)) (fact_at at source e) _ (λ none. (is_with_if over es e (all_stable e none), m))
        (λ y. unless_known fs r (no_guard at (u.unstable_first x (stable p t held) y)) later tt))
        (λ m. later)

    -- an assignment to the variable itself
    assigned : (at : ℕ) (e : Term) (es : List Term) → IsKnown (with_term_if (keeps_value p t held x e) es (bin Eq (var x) e)) (u.after_own x (stable p t held) at e)
    assigned at e es =
        let fs = with_term_if (keeps_value p t held x e) es (bin Eq (var x) e) in
        either fs (mentions e x) (own at) _ (λ m. tt)
        (λ m. by_stability fs (first_outside (stable p t held) (occurrences (bin Eq (var x) e))) (equation at x e) _
        (λ none.
        let both = and_parts (is_stable p t held x) (is_over_stable p t held e) (all_stable (bin Eq (var x) e) none) in
        let keeps : keeps_value p t held x e ≡ true = λ i. both.0 i && both.1 i && not (m i) in
        (is_with_if (keeps_value p t held x e) es (bin Eq (var x) e) keeps, or_left (x == x) (mentions e x) (eq-eqb x x refl)))
        (λ y. tt))

    -- one to another variable
    elsewhere : (at y : ℕ) (e : Term) (es : List Term) (r : Reason) → IsKnown es r
        → IsKnown (with_term_if (keeps_value p t held y e) (filter (λ g. not (mentions g y)) es) (bin Eq (var y) e)) (u.after_other x (stable p t held) at y e r)
    elsewhere at y e es r k =
        let kept = filter (λ g. not (mentions g y)) es in
        let fs = with_term_if (keeps_value p t held y e) kept (bin Eq (var y) e) in
        either fs (u.is_equation_about x (stable p t held) y e) (known (equation at y e)) (u.after_store at y r)
        (λ m.
        let first = and_parts (mentions e x && not (mentions e y)) (each_variable (has (stable p t held)) (bin Eq (var y) e)) m in
        let two = and_parts (mentions e x) (not (mentions e y)) first.0 in
        let both = and_parts (is_stable p t held y) (is_over_stable p t held e) (stable_now (bin Eq (var y) e) first.1) in
        let keeps : keeps_value p t held y e ≡ true = λ i. both.0 i && both.1 i && two.1 i in
        (is_with_if (keeps_value p t held y e) kept (bin Eq (var y) e) keeps, or_right (y == x) (mentions e x) two.0))
        (λ m. more kept fs (λ g. stays_with_if (keeps_value p t held y e) kept (bin Eq (var y) e) g) (u.after_store at y r) (stored at y es r k))

    assignment : (at y : ℕ) (e : Term) (es : List Term) (r : Reason) → IsKnown es r
        → IsKnown (with_term_if (keeps_value p t held y e) (filter (λ g. not (mentions g y)) es) (bin Eq (var y) e)) (u.after_assignment x (stable p t held) at y e r)
    assignment at y e es r k =
        let kept = filter (λ g. not (mentions g y)) es in
        either (with_term_if (keeps_value p t held y e) kept (bin Eq (var y) e)) (y == x) (u.after_own x (stable p t held) at e) (u.after_other x (stable p t held) at y e r)
        (λ m. subst (λ z. IsKnown (with_term_if (keeps_value p t held z e) kept (bin Eq (var z) e)) (u.after_own x (stable p t held) at e)) (sym (eqb-true y x m)) (assigned at e kept))
        (λ m. elsewhere at y e es r k)

    -- a lock that is given back, if one is, where these are held then
    returned : (at : ℕ) (o : Option ℕ) (es : List Term) (r : Reason) → IsKnown es r → IsKnown (known_where_returned p t held o es) (u.after_return (stable p t held) at o r)
    returned at None es r k = k
    returned at (Some l) es unmentioned k = tt
    returned at (Some l) es (own at') k = tt
    returned at (Some l) es (no_equation at' z) k = tt
    returned at (Some l) es (no_guard at' z) k = tt
    returned at (Some l) es (unlisted s) k = tt
    returned at (Some l) es (taken at' m) k = tt
    returned at (Some l) es (known f) k =
        either (filter (is_over_stable p t held) es) (each_variable (has (stable p t held)) f.term) (known f) _
        (λ m. (in_filter (is_over_stable p t held) es f.term (stable_now f.term m) k.0, k.1)) (λ m. tt)
    returned at (Some l) es (forgotten f loss) k = tt

  module _ (p : Plain) (t : ℕ) where
    one_step : (s : Step) (a : Point) (r : Reason) → IsKnown a.preds r
        → IsKnown (after_step p t s a).preds (u.after_step x (stable p t (after_step p t s a).held) p s r)
    one_step (passed at (assign y e q retypes)) a r k = assignment p t a.held at y e a.preds r k
    one_step (passed at (lock l)) a r k = locked (lock_at p l) at l a.preds r k
    one_step (passed at (branch e yes_block no_block join)) a r k =
        stated _ at join (u.behind_blocks x p Join at (branch e yes_block no_block join) r)
        (past_blocks p (distinct_terms join.preds) Join at (branch e yes_block no_block join) r)
    one_step (passed at (loop e inv b)) a r k =
        guarded p t a.held at _ (neg e) (distinct_terms inv.preds) _
        (stated _ at inv (u.behind_blocks x p Inv at (loop e inv b) r) (past_blocks p (distinct_terms inv.preds) Inv at (loop e inv b) r))
    one_step (passed at (note j)) a r k = stated _ at j (u.behind_state Note at r) (behind (distinct_terms j.preds) Note at r)
    one_step (passed at s) a r k = returned p t (after_step p t (passed at s) a).held at (parts s).returned a.preds r k
    one_step (yes at e) a r k = guarded p t a.held at _ e a.preds r k
    one_step (no at e) a r k = guarded p t a.held at _ (neg e) a.preds r k
    one_step (head at inv) a r k = stated _ at inv (u.behind_state Inv at r) (behind (distinct_terms inv.preds) Inv at r)

    all_steps : (ss : List Step) (a : Point) (r : Reason) → IsKnown a.preds r → IsKnown (after_steps p t ss a).preds (u.after_steps p t x a.held ss r)
    all_steps [] a r k = k
    all_steps (s ∷ ss) a r k =
        let next = after_step p t s a in
        subst (λ held. IsKnown (after_steps p t ss next).preds (u.after_steps p t x held ss (u.after_step x (stable p t held) p s r))) (sym (held_step p t s a))
        (all_steps ss next (u.after_step x (stable p t next.held) p s r) (one_step s a r k))

-- The law --------------------------------------------------------------------------------------------------------

-- where none of them mentions it, one that does isn't among them
unmentioned_in : (es : List Term) (x : ℕ) (e : Term) → is_mentioned es x ≡ false → mentions e x ≡ true → has_term es e ≡ true → ⊥
unmentioned_in [] x e none m h = true≢false (sym h)
unmentioned_in (g ∷ es) x e none m h = elim (or_cases (same g e) (has_term es e) h) [
  | inl first ↦ true≢false (sym (or_left (mentions g x) (is_mentioned es x) (ap (λ z. mentions z x) (same_is g e first) ∙ m)) ∙ none)
  | inr later ↦ by_case (λ k. unmentioned_in es x e k m later) (mentions g x) none
]
  where
    by_case : (is_mentioned es x ≡ false → ⊥) → (b : Bool) → (b || is_mentioned es x) ≡ false → ⊥
    by_case rest true k = true≢false k
    by_case rest false k = rest k

pub each_is_told : (p : Plain) (t x : ℕ) (steps : List Step) (hypotheses : List Term) → AreAmong (point_after_steps p t steps).preds hypotheses → is_mentioned hypotheses x ≡ false
    → (f : Fact) → reason p t x steps ≡ known f → ⊥
each_is_told p t x steps hypotheses among none f is =
    let there : IsKnown x (point_after_steps p t steps).preds (known f)
    = subst (IsKnown x (point_after_steps p t steps).preds) is (all_steps x p t steps (start p t) unmentioned tt) in
    unmentioned_in hypotheses x f.term none there.1 (among f.term there.0)
