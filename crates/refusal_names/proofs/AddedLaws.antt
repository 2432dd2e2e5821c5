-- Where a statement leaves more predicates than there may be, the line of V15 tells of what it adds.
use Rattle.std.proofs.Common.{◌≡◌, ℕ, ◌+◌, ◌&&◌, nat_le, List, [], ◌∷◌, ◌++◌, length, filter, Bool, true, false, not, if◌then◌else◌, Option, Some, None, true≢false, refl, sym, ◌∙◌, arith, inl, inr}
use Rattle.std.specs.List.{list_all}
use Rattle.std.proofs.lemmas.List.{length-append}
use Rattle.std.proofs.lemmas.List.Sums.{count_by-le-length, length-filter}
use Rattle.cov_expr.specs.declared.expr.Op.TheVariants.{Eq}
use Rattle.cov_expr.specs.declared.limits.TheConstants.{MOST_PREDICATES}
use Rattle.cov_expr.specs.Term.{Term, var, neg, bin}
use Rattle.cov_expr.specs.Trees.{has_term, mentions}
use Rattle.cov_ast.specs.Declarations.{lock_at}
use Rattle.cov_ast.specs.Plain.{plain}
use Rattle.cov_ast.specs.Syntax.{Program}
use Rattle.point_law.specs.After.{after_assign, after_lock, keeps_value, with_guard, with_term_if}
use Rattle.point_law.specs.Point.{is_over_stable, Point}
use Rattle.point_law.specs.Terms.{with_option, with_term}
use Rattle.typing_law.specs.ThreadObligations.{has_few_preds}
use Rattle.text_parts.specs.VariableNames.{variable_names}
use Rattle.refusal_names.specs.NameLines.{equation_line, guard_line, invariant_line}
use Rattle.refusal_names.specs.ToldAdded.{IsOfEquation, IsOfGuard, IsOfInvariant, IsOneTooMany}

-- One predicate more -------------------------------------------------------------------------------------------

over_by : (m : ℕ) (es : List Term) (e : Term) → nat_le (length es) m ≡ true → (b : Bool) → has_term es e ≡ b
    → nat_le (length (if b then es else es ++ e ∷ [])) m ≡ false → (length es ≡ m) × (has_term es e ≡ false)
over_by m es e few true is many = absurd (true≢false (sym few ∙ many))
over_by m es e few false is many =
    let longer : length (es ++ e ∷ []) ≡ length es + 1 = length-append es (e ∷ []) in
    let full : length es ≡ m = grind (arith, few, many, longer) in
    (full, is)

-- where the list is too long with an expression more, and isn't without
over : (es : List Term) (e : Term) → nat_le (length es) MOST_PREDICATES ≡ true → nat_le (length (with_term es e)) MOST_PREDICATES ≡ false → IsOneTooMany es e
over es e few many = let both = over_by MOST_PREDICATES es e few (has_term es e) refl many in record { full = both.0; new = both.1 }

-- the same where a condition allows to add it
over_if : (b : Bool) (es : List Term) (e : Term) → nat_le (length es) MOST_PREDICATES ≡ true → nat_le (length (with_term_if b es e)) MOST_PREDICATES ≡ false
    → (b ≡ true) × IsOneTooMany es e
over_if true es e few many = (refl, over es e few many)
over_if false es e few many = absurd (true≢false (sym few ∙ many))

-- no more are left of a list
few_left : (f : Term → Bool) (m : ℕ) (es : List Term) → nat_le (length es) m ≡ true → nat_le (length (filter f es)) m ≡ true
few_left f m es few =
    let counted = length-filter f es in
    let fewer = count_by-le-length f es in
    grind (arith, few, counted, fewer)

-- Statements ---------------------------------------------------------------------------------------------------

module _ (p : Program) (t : ℕ) (a : Point) (few : has_few_preds a ≡ true) where
  pub assigned : (x : ℕ) (e q : Term) (retypes : List (ℕ × Term)) → has_few_preds (after_assign (plain p) t a x e q retypes) ≡ false
      → IsOfEquation p t a x e (equation_line (variable_names p.vars) x e)
  assigned x e q retypes many =
      let both = over_if (keeps_value (plain p) t a.held x e) (filter (λ r. not (mentions r x)) a.preds) (bin Eq (var x) e)
      (few_left (λ r. not (mentions r x)) MOST_PREDICATES a.preds few) many in
      record { kept = both.0; many = both.1; told = refl }

  by_invariant : (l : ℕ) (o : Option Term) → (lock_at (plain p) l).inv ≡ o → nat_le (length (with_option a.preds o)) MOST_PREDICATES ≡ false
      → IsOfInvariant p t a l (invariant_line (variable_names p.vars) (lock_at (plain p) l).name o)
  by_invariant l None is many = absurd (true≢false (sym few ∙ many))
  by_invariant l (Some e) is many = record { invariant = e; is = is; many = over a.preds e few many; told = refl }

  pub taken : (l : ℕ) → has_few_preds (after_lock (plain p) t a l) ≡ false
      → IsOfInvariant p t a l (invariant_line (variable_names p.vars) (lock_at (plain p) l).name (lock_at (plain p) l).inv)
  taken l many = by_invariant l (lock_at (plain p) l).inv refl many

  by_guard : (e : Term) → (b : Bool) → has_few_preds (with_guard (plain p) t a e) ≡ b → (b && (has_few_preds (with_guard (plain p) t a (neg e)) && true)) ≡ false
      → IsOfGuard p t a e (guard_line (variable_names p.vars) e)
  by_guard e false is many =
      let both = over_if (is_over_stable (plain p) t a.held e) a.preds e few is in
      record { stable = both.0; many = inl both.1; told = refl }
  by_guard e true is many =
      let both = over_if (is_over_stable (plain p) t a.held e) a.preds (neg e) few (last_fails (has_few_preds (with_guard (plain p) t a (neg e))) many) in
      record { stable = both.0; many = inr both.1; told = refl }
    where
      last_fails : (c : Bool) → (c && true) ≡ false → c ≡ false
      last_fails false h = refl
      last_fails true h = h

  pub guarded : (e : Term) → list_all has_few_preds (with_guard (plain p) t a e ∷ with_guard (plain p) t a (neg e) ∷ []) ≡ false
      → IsOfGuard p t a e (guard_line (variable_names p.vars) e)
  guarded e many = by_guard e (has_few_preds (with_guard (plain p) t a e)) refl many
