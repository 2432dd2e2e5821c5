-- What a step gives is known behind it, and what no later step touches stays known where each state lists it.
use Rattle.std.proofs.Common.{◌≡◌, ℕ, List, [], ◌∷◌, ◌++◌, Bool, true, false, Option, Some, None, ◌⊎◌, inl, inr, refl, sym, ◌∙◌, ap, subst, filter, if◌then◌else◌, set, Contains, true≢false, arith}
use Rattle.std.specs.Prelude.{◌&&◌, ◌||◌, not}
use Rattle.std.proofs.lemmas.Bool.{and_parts, and_from, cases_eq, ne_eqb, or_cases, or_left, or_right}
use Rattle.std.proofs.lemmas.List.Elements.{Contains-append_cases, Contains-push_cases}
use Rattle.cov_expr.proofs.Trees.{has_term_append, same_is, same_refl}
use Rattle.cov_expr.specs.declared.expr.Op.TheVariants.{Eq}
use Rattle.cov_expr.specs.Term.{Term, const, var, neg, bin}
use Rattle.cov_expr.specs.Trees.{same, has_term, mentions}
use Rattle.cov_ast.specs.Declarations.{lock_at}
use Rattle.cov_ast.specs.Plain.{Plain}
use Rattle.cov_ast.specs.Syntax.{State, assign, lock, branch, loop, note}
use Rattle.cov_ast.specs.Tables.{has}
use Rattle.mode_state.specs.Sets.{is_stable}
use Rattle.statement_parts.specs.Parts.{parts}
use Rattle.statement_paths.specs.Paths.{Step, passed, yes, no, head}
use Rattle.point_law.specs.After.{with_term_if, keeps_value}
use Rattle.point_law.specs.Point.{Point, is_over_stable}
use Rattle.point_law.specs.Terms.{each_variable, with_term, with_terms, with_option, distinct_terms}
use Rattle.entail_origins.specs.Origins.{Given, given, each, by_invariant, given_by}
use Rattle.typing_points.specs.Points.{after_step}
use Rattle.entail_origins.specs.declared.hypothesis_origin.HypothesisSource.{HypothesisSource}
use Rattle.entail_origins.specs.declared.hypothesis_origin.HypothesisSource.TheVariants as by
use Rattle.entail_losses.specs.LeftOut.{gives_nothing, untouched_by}
use Rattle.entail_losses.specs.WouldBeKnown.{step_with}
use Rattle.entail_losses.proofs.StableLaws.{gone}

-- Lists of predicates ------------------------------------------------------------------------------------------

stays_at_end : (es fs : List Term) (h : Term) → has_term es h ≡ true → has_term (es ++ fs) h ≡ true
stays_at_end es fs h k = has_term_append es fs h ∙ or_left (has_term es h) (has_term fs h) k

-- the last one is there
pub at_end : (es : List Term) (e : Term) → has_term (es ++ e ∷ []) e ≡ true
at_end es e =
    has_term_append es (e ∷ []) e ∙ or_right (has_term es e) (has_term (e ∷ []) e) (or_left (same e e) false (same_refl e))

pub stays_with : (es : List Term) (e h : Term) → has_term es h ≡ true → has_term (with_term es e) h ≡ true
stays_with es e h k = by_case (has_term es e)
  where
    by_case : (b : Bool) → has_term (if b then es else es ++ e ∷ []) h ≡ true
    by_case true = k
    by_case false = stays_at_end es (e ∷ []) h k

-- one that is added is there
pub is_with : (es : List Term) (e : Term) → has_term (with_term es e) e ≡ true
is_with es e = by_case (has_term es e) refl
  where
    by_case : (b : Bool) → has_term es e ≡ b → has_term (if b then es else es ++ e ∷ []) e ≡ true
    by_case true there = there
    by_case false there = at_end es e

stays_with_all : (es fs : List Term) (h : Term) → has_term es h ≡ true → has_term (with_terms es fs) h ≡ true
stays_with_all es [] h k = k
stays_with_all es (f ∷ fs) h k = stays_with_all (with_term es f) fs h (stays_with es f h k)

are_with : (es fs : List Term) (h : Term) → has_term fs h ≡ true → has_term (with_terms es fs) h ≡ true
are_with es [] h k = absurd (true≢false (sym k))
are_with es (f ∷ fs) h k = elim (or_cases (same f h) (has_term fs h) k) [
  | inl first ↦ stays_with_all (with_term es f) fs h (subst (λ g. has_term (with_term es f) g ≡ true) (same_is f h first) (is_with es f))
  | inr later ↦ are_with (with_term es f) fs h later
]

pub in_distinct : (es : List Term) (h : Term) → has_term es h ≡ true → has_term (distinct_terms es) h ≡ true
in_distinct es h k = are_with [] es h k

pub stays_with_if : (b : Bool) (es : List Term) (e h : Term) → has_term es h ≡ true → has_term (with_term_if b es e) h ≡ true
stays_with_if true es e h k = stays_with es e h k
stays_with_if false es e h k = k

pub is_with_if : (b : Bool) (es : List Term) (e : Term) → b ≡ true → has_term (with_term_if b es e) e ≡ true
is_with_if true es e h = is_with es e
is_with_if false es e h = absurd (true≢false (sym h))

stays_with_option : (es : List Term) (o : Option Term) (h : Term) → has_term es h ≡ true → has_term (with_option es o) h ≡ true
stays_with_option es None h k = k
stays_with_option es (Some e) h k = stays_with es e h k

-- one that passes a test is there behind it
pub in_filter : (keep : Term → Bool) (es : List Term) (h : Term) → keep h ≡ true → has_term es h ≡ true → has_term (filter keep es) h ≡ true
in_filter keep [] h passes k = k
in_filter keep (e ∷ es) h passes k = by_case (λ m. in_filter keep es h passes m) (keep e) refl (or_cases (same e h) (has_term es h) k)
  where
    by_case : (has_term es h ≡ true → has_term (filter keep es) h ≡ true) → (b : Bool) → keep e ≡ b → (same e h ≡ true) ⊎ (has_term es h ≡ true)
        → has_term (if b then e ∷ filter keep es else filter keep es) h ≡ true
    by_case rest true is (inl first) = or_left (same e h) (has_term (filter keep es) h) first
    by_case rest true is (inr later) = or_right (same e h) (has_term (filter keep es) h) (rest later)
    by_case rest false is (inl first) = absurd (true≢false (sym passes ∙ sym (ap keep (same_is e h first)) ∙ is))
    by_case rest false is (inr later) = rest later

-- what is known where a lock was given back, if one was, and these are held
module _ (p : Plain) (t : ℕ) (held : List Bool) where
  abbrev pub known_where_returned : Option ℕ → List Term → List Term
  known_where_returned None es = es
  known_where_returned (Some l) es = filter (is_over_stable p t held) es

  stays_returned : (returned : Option ℕ) (es : List Term) (h : Term) → is_over_stable p t held h ≡ true → has_term es h ≡ true
      → has_term (known_where_returned returned es) h ≡ true
  stays_returned None es h stable k = k
  stays_returned (Some l) es h stable k = in_filter (is_over_stable p t held) es h stable k

-- Variables ----------------------------------------------------------------------------------------------------

pub each_more : (f g : ℕ → Bool) → ((x : ℕ) → f x ≡ true → g x ≡ true) → (e : Term) → each_variable f e ≡ true → each_variable g e ≡ true
each_more f g more (const k) h = refl
each_more f g more (var x) h = more x h
each_more f g more (neg e) h = each_more f g more e h
each_more f g more (bin op a b) h =
    let both = and_parts (each_variable f a) (each_variable f b) h in
    and_from (each_variable g a) (each_variable g b) (each_more f g more a both.0) (each_more f g more b both.1)

unmentioned : (test : ℕ → Bool) (x : ℕ) → test x ≡ false → (e : Term) → each_variable test e ≡ true → mentions e x ≡ false
unmentioned test x fails (const k) h = refl
unmentioned test x fails (var y) h = elim (cases_eq y x) [
  | inl e ↦ absurd (true≢false (sym h ∙ ap test e ∙ fails))
  | inr ne ↦ ne_eqb y x ne
]
unmentioned test x fails (neg e) h = unmentioned test x fails e h
unmentioned test x fails (bin op a b) h =
    let both = and_parts (each_variable test a) (each_variable test b) h in
    let left = unmentioned test x fails a both.0 in
    let right = unmentioned test x fails b both.1 in
    λ i. left i || right i

-- One step -----------------------------------------------------------------------------------------------------

pub only : {g h : Given} → Contains (g ∷ []) h → g ≡ h
only {g} {h} k = from (Contains-push_cases [] g h k)
  where
    from : Contains [] h ⊎ (g ≡ h) → g ≡ h
    from (inl none) = let inside = none.1 in absurd (omega arith)
    from (inr e) = e

-- what is given by one source is there
among_each : (source : HypothesisSource) (es : List Term) (g : Given) → Contains (each source es) g → has_term es g.term ≡ true
among_each source [] g k = let inside = k.1 in absurd (omega arith)
among_each source (e ∷ es) g k = elim (Contains-append_cases (given source e ∷ []) (each source es) g k) [
  | inl first ↦ or_left (same e g.term) (has_term es g.term) (ap (same e) (sym (ap (λ h. h.term) (only first))) ∙ same_refl e)
  | inr later ↦ or_right (same e g.term) (has_term es g.term) (among_each source es g later)
]

module _ (p : Plain) (t : ℕ) where
  abbrev pub Knows : Point → Term → Type 0
  Knows a e = has_term a.preds e ≡ true

  -- what is over stable variables that a step doesn't touch stays known, where the step lists it in its state
  pub keeps : (s : Step) (a : Point) (e : Term) (kept : List Bool) → each_variable (has (untouched_by p true s kept)) e ≡ true
      → is_over_stable p t (after_step p t s a).held e ≡ true → Knows a e → Knows (after_step p t (step_with e s) a) e
  keeps (passed at (assign x v q retypes)) a e kept over stable k =
      let other : mentions e x ≡ false = unmentioned (has (set kept x false)) x (gone kept x) e over in
      stays_with_if (keeps_value p t a.held x v) (filter (λ r. not (mentions r x)) a.preds) (bin Eq (var x) v) e
      (in_filter (λ r. not (mentions r x)) a.preds e (ap not other) k)
  keeps (passed at (lock l)) a e kept over stable k = stays_with_option a.preds (lock_at p l).inv e k
  keeps (passed at (branch g yes_block no_block join)) a e kept over stable k = in_distinct (join.preds ++ e ∷ []) e (at_end join.preds e)
  keeps (passed at (loop g inv b)) a e kept over stable k =
      stays_with_if (is_over_stable p t a.held (neg g)) (distinct_terms (inv.preds ++ e ∷ [])) (neg g) e
      (in_distinct (inv.preds ++ e ∷ []) e (at_end inv.preds e))
  keeps (passed at (note j)) a e kept over stable k = in_distinct (j.preds ++ e ∷ []) e (at_end j.preds e)
  keeps (passed at s) a e kept over stable k = stays_returned p t (after_step p t (passed at s) a).held (parts s).returned a.preds e stable k
  keeps (yes at g) a e kept over stable k = stays_with_if (is_over_stable p t a.held g) a.preds g e k
  keeps (no at g) a e kept over stable k = stays_with_if (is_over_stable p t a.held (neg g)) a.preds (neg g) e k
  keeps (head at inv) a e kept over stable k = in_distinct (inv.preds ++ e ∷ []) e (at_end inv.preds e)

  -- what a step gives is known at its end, where it is over stable variables
  abbrev GivesAt : Step → Point → Given → Type 0
  GivesAt s a g =
      gives_nothing g.source g.term ≡ false → is_over_stable p t (after_step p t s a).held g.term ≡ true → Knows (after_step p t s a) g.term

  by_assignment : (at x : ℕ) (v : Term) (q : Option Term) (retypes : List (ℕ × Term)) (a : Point)
      → GivesAt (passed at (assign x v q retypes)) a (given by.Assigned (bin Eq (var x) v))
  by_assignment at x v q retypes a other stable =
      let both = and_parts (is_stable p t a.held x) (is_over_stable p t a.held v) stable in
      let keeps : keeps_value p t a.held x v ≡ true = λ i. both.0 i && both.1 i && not (other i) in
      is_with_if (keeps_value p t a.held x v) (filter (λ r. not (mentions r x)) a.preds) (bin Eq (var x) v) keeps

  by_lock : (l : ℕ) (o : Option Term) (es : List Term) (g : Given) → Contains (by_invariant l o) g → has_term (with_option es o) g.term ≡ true
  by_lock l None es g k = let inside = k.1 in absurd (omega arith)
  by_lock l (Some e) es g k = subst (λ h. has_term (with_term es e) h.term ≡ true) (only k) (is_with es e)

  by_state : (source : HypothesisSource) (j : State) (g : Given) → Contains (each source j.preds) g → has_term (distinct_terms j.preds) g.term ≡ true
  by_state source j g k = in_distinct j.preds g.term (among_each source j.preds g k)

  pub gives : (s : Step) (a : Point) (g : Given) → Contains (given_by p s) g → GivesAt s a g
  gives (passed at (assign x v q retypes)) a g k = subst (GivesAt (passed at (assign x v q retypes)) a) (only k) (by_assignment at x v q retypes a)
  gives (passed at (lock l)) a g k = λ other stable. by_lock l (lock_at p l).inv a.preds g k
  gives (passed at (branch e yes_block no_block join)) a g k = λ other stable. by_state by.Join join g k
  gives (passed at (loop e inv b)) a g k = from (Contains-append_cases (given by.LoopLeft (neg e) ∷ []) (each by.LoopState inv.preds) g k)
    where
      from : Contains (given by.LoopLeft (neg e) ∷ []) g ⊎ Contains (each by.LoopState inv.preds) g → GivesAt (passed at (loop e inv b)) a g
      from (inl first) = subst (GivesAt (passed at (loop e inv b)) a) (only first) (λ other stable. is_with_if (is_over_stable p t a.held (neg e)) (distinct_terms inv.preds) (neg e) stable)
      from (inr later) = λ other stable. stays_with_if (is_over_stable p t a.held (neg e)) (distinct_terms inv.preds) (neg e) g.term (by_state by.LoopState inv g later)
  gives (passed at (note j)) a g k = λ other stable. by_state by.Noted j g k
  gives (passed at _) a g k = let inside = k.1 in absurd (omega arith)
  gives (yes at e) a g k = subst (GivesAt (yes at e) a) (only k) (λ other stable. is_with_if (is_over_stable p t a.held e) a.preds e stable)
  gives (no at e) a g k = subst (GivesAt (no at e) a) (only k) (λ other stable. is_with_if (is_over_stable p t a.held (neg e)) a.preds (neg e) stable)
  gives (head at inv) a g k = λ other stable. by_state by.LoopState inv g k
