-- Each predicate of the point behind steps is given by one of them.
use Rattle.std.proofs.Common.{◌≡◌, ℕ, List, [], ◌∷◌, ◌++◌, Bool, true, false, Option, Some, None, ◌⊎◌, inl, inr, refl, sym, ◌∙◌, ap, filter, if◌then◌else◌, option_map, set}
use Rattle.std.specs.Prelude.{◌||◌, not}
use Rattle.std.specs.Option.{option_or}
use Rattle.std.proofs.lemmas.Bool.{or_cases}
use Rattle.std.proofs.lemmas.List.Folds.{list_any-append}
use Rattle.cov_expr.specs.declared.expr.Op.TheVariants.{Eq}
use Rattle.cov_expr.specs.Term.{Term, var, neg, bin}
use Rattle.cov_expr.specs.Trees.{same, has_term, mentions}
use Rattle.cov_ast.specs.Declarations.{lock_at}
use Rattle.cov_ast.specs.Plain.{Plain}
use Rattle.cov_ast.specs.Syntax.{assign, lock, branch, loop, note}
use Rattle.statement_parts.specs.Parts.{parts}
use Rattle.statement_paths.specs.Paths.{Step, passed, yes, no, head, place_of}
use Rattle.point_law.specs.After.{start, with_term_if, keeps_value}
use Rattle.point_law.specs.Point.{Point, is_over_stable}
use Rattle.point_law.specs.Terms.{with_term, with_terms, with_option, distinct_terms}
use Rattle.entail_origins.specs.Origins.{Given, given, each, by_invariant, given_by, first_given, at_place, origin_at, origin}
use Rattle.typing_points.specs.Points.{after_step, after_steps, point_after_steps}
use Rattle.entail_origins.specs.declared.hypothesis_origin.Origin.{Origin}
use Rattle.entail_origins.specs.declared.hypothesis_origin.HypothesisSource.{HypothesisSource}
use Rattle.entail_origins.specs.declared.hypothesis_origin.HypothesisSource.TheVariants as by

-- Tests --------------------------------------------------------------------------------------------------------

or_true : (a : Bool) → (a || true) ≡ true
or_true true = refl
or_true false = refl

or_false : (a : Bool) → (a || false) ≡ true → a ≡ true
or_false true h = refl
or_false false h = h

only_second : (b : Bool) → (false ≡ true) ⊎ (b ≡ true) → b ≡ true
only_second true h = refl
only_second false (inl h) = h
only_second false (inr h) = h

-- Lists of predicates ------------------------------------------------------------------------------------------

in_with_term : (es : List Term) (e h : Term) → has_term (with_term es e) h ≡ true → (has_term es h ≡ true) ⊎ (same e h ≡ true)
in_with_term es e h = by_case (has_term es e)
  where
    at_end : (has_term es h ≡ true) ⊎ ((same e h || false) ≡ true) → (has_term es h ≡ true) ⊎ (same e h ≡ true)
    at_end (inl k) = inl k
    at_end (inr k) = inr (or_false (same e h) k)

    by_case : (b : Bool) → has_term (if b then es else es ++ e ∷ []) h ≡ true → (has_term es h ≡ true) ⊎ (same e h ≡ true)
    by_case true k = inl k
    by_case false k = at_end (or_cases (has_term es h) (same e h || false) (sym (list_any-append (λ f. same f h) es (e ∷ [])) ∙ k))

in_with_terms : (es fs : List Term) (h : Term) → has_term (with_terms es fs) h ≡ true → (has_term es h ≡ true) ⊎ (has_term fs h ≡ true)
in_with_terms es [] h k = inl k
in_with_terms es (f ∷ fs) h k = from (in_with_terms (with_term es f) fs h k)
  where
    last : (has_term es h ≡ true) ⊎ (same f h ≡ true) → (has_term es h ≡ true) ⊎ ((same f h || has_term fs h) ≡ true)
    last (inl m) = inl m
    last (inr m) = inr (ap (λ c. c || has_term fs h) m)

    from : (has_term (with_term es f) h ≡ true) ⊎ (has_term fs h ≡ true) → (has_term es h ≡ true) ⊎ ((same f h || has_term fs h) ≡ true)
    from (inl m) = last (in_with_term es f h m)
    from (inr m) = inr (ap (λ c. same f h || c) m ∙ or_true (same f h))

in_distinct : (es : List Term) (h : Term) → has_term (distinct_terms es) h ≡ true → has_term es h ≡ true
in_distinct es h k = only_second (has_term es h) (in_with_terms [] es h k)

in_filter : (keep : Term → Bool) (es : List Term) (h : Term) → has_term (filter keep es) h ≡ true → has_term es h ≡ true
in_filter keep [] h k = k
in_filter keep (e ∷ es) h k = by_case (λ m. in_filter keep es h m) (keep e) k
  where
    first_or_later : (has_term (filter keep es) h ≡ true → has_term es h ≡ true) → (same e h ≡ true) ⊎ (has_term (filter keep es) h ≡ true)
        → (same e h || has_term es h) ≡ true
    first_or_later rest (inl m) = ap (λ c. c || has_term es h) m
    first_or_later rest (inr m) = ap (λ c. same e h || c) (rest m) ∙ or_true (same e h)

    by_case : (has_term (filter keep es) h ≡ true → has_term es h ≡ true) → (b : Bool) → has_term (if b then e ∷ filter keep es else filter keep es) h ≡ true
        → (same e h || has_term es h) ≡ true
    by_case rest true m = first_or_later rest (or_cases (same e h) (has_term (filter keep es) h) m)
    by_case rest false m = ap (λ c. same e h || c) (rest m) ∙ or_true (same e h)

in_with_term_if : (b : Bool) (es : List Term) (e h : Term) → has_term (with_term_if b es e) h ≡ true → (has_term es h ≡ true) ⊎ (same e h ≡ true)
in_with_term_if true es e h k = in_with_term es e h k
in_with_term_if false es e h k = inl k

-- What a step gives --------------------------------------------------------------------------------------------

abbrev pub AreGiving : List Given → (h : Term) → Type 0
AreGiving gs h = (k : HypothesisSource) × (first_given gs h ≡ Some k)

gives_first : (g : Given) (gs : List Given) (h : Term) → same g.term h ≡ true → AreGiving (g ∷ gs) h
gives_first g gs h e = (g.source, ap (λ b. if b then Some g.source else first_given gs h) e)

gives_later : (g : Given) (gs : List Given) (h : Term) → AreGiving gs h → AreGiving (g ∷ gs) h
gives_later g gs h m = by_case (same g.term h)
  where
    by_case : (b : Bool) → (k : HypothesisSource) × ((if b then Some g.source else first_given gs h) ≡ Some k)
    by_case true = (g.source, refl)
    by_case false = m

gives_each : (source : HypothesisSource) (es : List Term) (h : Term) → has_term es h ≡ true → AreGiving (each source es) h
gives_each source [] h k = let c : ◌≡◌ {A = Bool} false true = k in cc
gives_each source (e ∷ es) h k = from (λ m. gives_each source es h m) (or_cases (same e h) (has_term es h) k)
  where
    from : (has_term es h ≡ true → AreGiving (each source es) h) → (same e h ≡ true) ⊎ (has_term es h ≡ true) → AreGiving (each source (e ∷ es)) h
    from rest (inl m) = gives_first (given source e) (each source es) h m
    from rest (inr m) = gives_later (given source e) (each source es) h (rest m)

-- of what is there with one predicate more
one_more : (b : Bool) (source : HypothesisSource) (es : List Term) (e h : Term) → has_term (with_term_if b es e) h ≡ true
    → (has_term es h ≡ true) ⊎ AreGiving (given source e ∷ []) h
one_more b source es e h k = from (in_with_term_if b es e h k)
  where
    from : (has_term es h ≡ true) ⊎ (same e h ≡ true) → (has_term es h ≡ true) ⊎ AreGiving (given source e ∷ []) h
    from (inl m) = inl m
    from (inr m) = inr (gives_first (given source e) [] h m)

by_lock : (l : ℕ) (invariant : Option Term) (es : List Term) (h : Term) → has_term (with_option es invariant) h ≡ true
    → (has_term es h ≡ true) ⊎ AreGiving (by_invariant l invariant) h
by_lock l None es h k = inl k
by_lock l (Some e) es h k = one_more true (by.Invariant l) es e h k

by_loop : (b : Bool) (e : Term) (es : List Term) (h : Term) → has_term (with_term_if b (distinct_terms es) (neg e)) h ≡ true
    → AreGiving (given by.LoopLeft (neg e) ∷ each by.LoopState es) h
by_loop b e es h k = from (in_with_term_if b (distinct_terms es) (neg e) h k)
  where
    from : (has_term (distinct_terms es) h ≡ true) ⊎ (same (neg e) h ≡ true) → AreGiving (given by.LoopLeft (neg e) ∷ each by.LoopState es) h
    from (inl m) = gives_later (given by.LoopLeft (neg e)) (each by.LoopState es) h (gives_each by.LoopState es h (in_distinct es h m))
    from (inr m) = gives_first (given by.LoopLeft (neg e)) (each by.LoopState es) h m

module _ (p : Plain) (t : ℕ) where
  -- the predicates that are kept where a lock is given back, if one is
  abbrev kept : (returned : Option ℕ) → Point → List Term
  kept None a = a.preds
  kept (Some l) a = filter (is_over_stable p t (set a.held l false)) a.preds

  in_kept : (returned : Option ℕ) (a : Point) (h : Term) → has_term (kept returned a) h ≡ true → has_term a.preds h ≡ true
  in_kept None a h k = k
  in_kept (Some l) a h k = in_filter (is_over_stable p t (set a.held l false)) a.preds h k

  -- a predicate of the point behind a step was one before, or the step gives it
  step_gives : (s : Step) (a : Point) (h : Term) → has_term (after_step p t s a).preds h ≡ true → (has_term a.preds h ≡ true) ⊎ AreGiving (given_by p s) h
  step_gives (passed at (assign x e q retypes)) a h k =
      from (one_more (keeps_value p t a.held x e) by.Assigned (filter (λ r. not (mentions r x)) a.preds) (bin Eq (var x) e) h k)
    where
      from : (has_term (filter (λ r. not (mentions r x)) a.preds) h ≡ true) ⊎ AreGiving (given by.Assigned (bin Eq (var x) e) ∷ []) h
          → (has_term a.preds h ≡ true) ⊎ AreGiving (given by.Assigned (bin Eq (var x) e) ∷ []) h
      from (inl m) = inl (in_filter (λ r. not (mentions r x)) a.preds h m)
      from (inr m) = inr m
  step_gives (passed at (lock l)) a h k = by_lock l (lock_at p l).inv a.preds h k
  step_gives (passed at (branch e yes_block no_block join)) a h k = inr (gives_each by.Join join.preds h (in_distinct join.preds h k))
  step_gives (passed at (loop e inv b)) a h k = inr (by_loop (is_over_stable p t a.held (neg e)) e inv.preds h k)
  step_gives (passed at (note j)) a h k = inr (gives_each by.Noted j.preds h (in_distinct j.preds h k))
  step_gives (passed at s) a h k = inl (in_kept (parts s).returned a h k)
  step_gives (yes at e) a h k = one_more (is_over_stable p t a.held e) by.GuardHolds a.preds e h k
  step_gives (no at e) a h k = one_more (is_over_stable p t a.held (neg e)) by.GuardFails a.preds (neg e) h k
  step_gives (head at inv) a h k = inr (gives_each by.LoopState inv.preds h (in_distinct inv.preds h k))

  -- Several steps ----------------------------------------------------------------------------------------------

  abbrev pub HasOrigin : List Step → (h : Term) → Type 0
  HasOrigin ss h = (o : Origin) × (origin p ss h ≡ Some o)

  earlier : (s : Step) (ss : List Step) (h : Term) → AreGiving (given_by p s) h → HasOrigin (s ∷ ss) h
  earlier s ss h m = by_case (origin p ss h)
    where
      by_case : (x : Option Origin) → (o : Origin) × (option_or x (origin_at p s h) ≡ Some o)
      by_case None = (at_place (place_of s) m.0, ap (option_map (at_place (place_of s))) m.1)
      by_case (Some o) = (o, refl)

  later : (s : Step) (ss : List Step) (h : Term) → HasOrigin ss h → HasOrigin (s ∷ ss) h
  later s ss h m = (m.0, ap (λ x. option_or x (origin_at p s h)) m.1)

  along : (ss : List Step) (a : Point) (h : Term) → has_term (after_steps p t ss a).preds h ≡ true → (has_term a.preds h ≡ true) ⊎ HasOrigin ss h
  along [] a h k = inl k
  along (s ∷ ss) a h k = from (along ss (after_step p t s a) h k)
    where
      first : (has_term a.preds h ≡ true) ⊎ AreGiving (given_by p s) h → (has_term a.preds h ≡ true) ⊎ HasOrigin (s ∷ ss) h
      first (inl m) = inl m
      first (inr m) = inr (earlier s ss h m)

      from : (has_term (after_step p t s a).preds h ≡ true) ⊎ HasOrigin ss h → (has_term a.preds h ≡ true) ⊎ HasOrigin (s ∷ ss) h
      from (inl m) = first (step_gives s a h m)
      from (inr m) = inr (later s ss h m)

  -- at the start there is no predicate
  pub has_origin : (ss : List Step) (h : Term) → has_term (point_after_steps p t ss).preds h ≡ true → HasOrigin ss h
  has_origin ss h k = from (along ss (start p t) h k)
    where
      from : (false ≡ true) ⊎ HasOrigin ss h → HasOrigin ss h
      from (inl m) = let c : ◌≡◌ {A = Bool} false true = m in cc
      from (inr m) = m
