-- Where no step makes anything that has too many nodes, no predicate behind the steps has.
use Rattle.std.proofs.Common.{◌≡◌, ℕ, ◌&&◌, List, [], ◌∷◌, ◌++◌, filter, Bool, true, false, not, cond, if◌then◌else◌, Option, Some, None, refl, ◌∙◌}
use Rattle.std.specs.List.{list_all}
use Rattle.std.specs.Option.{option_or}
use Rattle.std.proofs.lemmas.Bool.{and_from, and_parts}
use Rattle.std.proofs.lemmas.List.Folds.{list_all-append}
use Rattle.cov_expr.specs.declared.expr.Op.TheVariants.{Eq}
use Rattle.cov_expr.specs.Term.{Term, bin, neg, var}
use Rattle.cov_expr.specs.Trees.{has_term, mentions}
use Rattle.cov_ast.specs.Declarations.{invariant_of, invariant_term, lock_at}
use Rattle.cov_ast.specs.Plain.{plain}
use Rattle.cov_ast.specs.Syntax.{assign, branch, lock, loop, note, Program, Stm}
use Rattle.typing_points.specs.Points.{after_step, after_steps}
use Rattle.point_law.specs.After.{keeps_value, start, with_term_if}
use Rattle.point_law.specs.Point.{is_over_stable, Point}
use Rattle.point_law.specs.Terms.{distinct_terms, is_small, with_option, with_term, with_terms}
use Rattle.statement_paths.specs.Paths.{head, no, passed, yes, Step}
use Rattle.typing_law.specs.Blocks.{after_stm}
use Rattle.refusal_names.proofs.LargeLaws.{small_is}
use Rattle.refusal_names.specs.LargeTerms.{is_large, large_equation, large_negation, last_made, made_after_statement, made_by}
use Rattle.refusal_names.specs.ToldLarge.{is_given_small}

-- Lists of small expressions -----------------------------------------------------------------------------------

abbrev are_small : List Term → Bool
are_small es = list_all is_small es

small_with : (es : List Term) (e : Term) → are_small es ≡ true → is_small e ≡ true → are_small (with_term es e) ≡ true
small_with es e h k = by_test (has_term es e)
  where
    by_test : (b : Bool) → are_small (if b then es else es ++ e ∷ []) ≡ true
    by_test true = h
    by_test false = list_all-append is_small es (e ∷ []) ∙ and_from (are_small es) (is_small e && true) h (and_from (is_small e) true k refl)

small_with_all : (es fs : List Term) → are_small es ≡ true → are_small fs ≡ true → are_small (with_terms es fs) ≡ true
small_with_all es [] h k = h
small_with_all es (f ∷ fs) h k =
    let both = and_parts (is_small f) (are_small fs) k in
    small_with_all (with_term es f) fs (small_with es f h both.0) both.1

small_distinct : (es : List Term) → are_small es ≡ true → are_small (distinct_terms es) ≡ true
small_distinct es h = small_with_all [] es refl h

small_if : (b : Bool) (es : List Term) (e : Term) → are_small es ≡ true → is_small e ≡ true → are_small (with_term_if b es e) ≡ true
small_if true es e h k = small_with es e h k
small_if false es e h k = h

small_option : (es : List Term) (o : Option Term) → are_small es ≡ true → is_small (invariant_term o) ≡ true → are_small (with_option es o) ≡ true
small_option es None h k = h
small_option es (Some e) h k = small_with es e h k

small_filter : (f : Term → Bool) (es : List Term) → are_small es ≡ true → are_small (filter f es) ≡ true
small_filter f [] h = refl
small_filter f (e ∷ es) h =
    let both = and_parts (is_small e) (are_small es) h in
    by_test (small_filter f es both.1) both.0 (f e)
  where
    by_test : are_small (filter f es) ≡ true → is_small e ≡ true → (b : Bool) → are_small (cond b (e ∷ filter f es) (filter f es)) ≡ true
    by_test rest first true = and_from (is_small e) (are_small (filter f es)) first rest
    by_test rest first false = rest

-- What is made -------------------------------------------------------------------------------------------------

-- where nothing too large is made of an expression, it is small
not_made : (made : ℕ × List ℕ) (e : Term) (b : Bool) → is_large e ≡ b → ◌≡◌ {A = Option (ℕ × List ℕ)} (if b then Some made else None) None → is_small e ≡ true
not_made made e false is h = small_is e is
not_made made e true is h = let wrong : ⊥ = cc in absurd wrong

small_equation : (at x : ℕ) (e : Term) → large_equation at x e ≡ None → is_small (bin Eq (var x) e) ≡ true
small_equation at x e h = not_made _ (bin Eq (var x) e) (is_large (bin Eq (var x) e)) refl h

small_negation : (at : ℕ) (e : Term) → large_negation at e ≡ None → is_small (neg e) ≡ true
small_negation at e h = not_made _ (neg e) (is_large (neg e)) refl h

-- Steps --------------------------------------------------------------------------------------------------------

module _ (p : Program) (t : ℕ) (invariants : (l : ℕ) → is_small (invariant_of (plain p) l) ≡ true) where
  past : (at : ℕ) (s : Stm) (a : Point) → is_given_small (passed at s) ≡ true → made_after_statement at s ≡ None → are_small a.preds ≡ true
      → are_small (after_stm (plain p) t s a).preds ≡ true
  past at (assign x e q retypes) a given made h =
      small_if (keeps_value (plain p) t a.held x e) (filter (λ r. not (mentions r x)) a.preds) (bin Eq (var x) e) (small_filter (λ r. not (mentions r x)) a.preds h)
      (small_equation at x e made)
  past at (lock l) a given made h = small_option a.preds (lock_at (plain p) l).inv h (invariants l)
  past at (branch e yes_block no_block join) a given made h = small_distinct join.preds given
  past at (loop e inv b) a given made h = small_if (is_over_stable (plain p) t a.held (neg e)) (distinct_terms inv.preds) (neg e) (small_distinct inv.preds given) (small_negation at e made)
  past at (note j) a given made h = small_distinct j.preds given
  past at _ a given made h = first_of (assumption, search small_filter)

  behind_step : (s : Step) (a : Point) → is_given_small s ≡ true → made_by s ≡ None → are_small a.preds ≡ true → are_small (after_step (plain p) t s a).preds ≡ true
  behind_step (passed at s) a given made h = past at s a given made h
  behind_step (yes at e) a given made h = small_if (is_over_stable (plain p) t a.held e) a.preds e h given
  behind_step (no at e) a given made h = small_if (is_over_stable (plain p) t a.held (neg e)) a.preds (neg e) h (small_negation at e made)
  behind_step (head at inv) a given made h = small_distinct inv.preds given

  none_of_both : (o q : Option (ℕ × List ℕ)) → option_or o q ≡ None → (o ≡ None) × (q ≡ None)
  none_of_both None q h = (refl, h)
  none_of_both (Some m) q h = let wrong : ⊥ = cc in absurd wrong

  behind_steps : (steps : List Step) (a : Point) → list_all is_given_small steps ≡ true → last_made steps ≡ None → are_small a.preds ≡ true
      → are_small (after_steps (plain p) t steps a).preds ≡ true
  behind_steps [] a given made h = h
  behind_steps (s ∷ ss) a given made h =
      let small = and_parts (is_given_small s) (list_all is_given_small ss) given in
      let none = none_of_both (last_made ss) (made_by s) made in
      behind_steps ss (after_step (plain p) t s a) small.1 none.0 (behind_step s a small.0 none.1 h)

  pub small_behind : (steps : List Step) → list_all is_given_small steps ≡ true → last_made steps ≡ None → are_small (after_steps (plain p) t steps (start (plain p) t)).preds ≡ true
  small_behind steps given made = behind_steps steps (start (plain p) t) given made refl
