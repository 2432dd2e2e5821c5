-- Laws of the obligations of an expression.
use Rattle.std.proofs.Common.{◌≡◌, ℕ, ◌+◌, ◌<◌, List, [], ◌∷◌, ◌++◌, Bool, true, cond, map, sym, refl, ap, ◌∙◌, subst, arith, Option, Some, None, Result, Err, MatchOption, is_some, nat_le}
use Rattle.std.specs.List.{count_by}
use Rattle.std.proofs.lemmas.Bool.{and_parts, le-leb, lt-leb}
use Rattle.std.proofs.lemmas.List.{map-append}
use Rattle.std.proofs.lemmas.List.Sums.{sum_by-append}
use Rattle.cov_expr.specs.declared.expr.Op.{Op}
use Rattle.cov_expr.specs.Term.{Term, const, var, neg, bin}
use Rattle.cov_expr.specs.Trees.{occurrences, vars}
use Rattle.cov_ast.specs.Obligations.{Obligation, Decides, first_false}
use Rattle.cov_ast.specs.declared.refusal.CheckFault.{CheckFault}
use Rattle.cov_ast.specs.declared.refusal.Rule.{Rule}
use Rattle.cov_ast.specs.declared.refusal.Detail.{Detail}
use Rattle.cov_ast.proofs.ObligationLaws.{append_decided, append_held, append_refused, same_decided, distinct_map_same}
use Rattle.point_law.specs.Terms.{each_variable}
use Rattle.typing_law.specs.ThreadObligations.{thread_obligation}

-- Obligations of each occurrence of a variable ----------------------------------------------------------------

module _ (f : ℕ → Obligation) where
  pub at_var : (e : Term) (x : ℕ) (r : Result (Unit {0}) CheckFault) → e ≡ var x → Decides (f x ∷ []) r → Decides (map f (occurrences e)) r
  at_var e x r is h = subst (λ u. Decides (map f (occurrences u)) r) (sym is) h

  module _ (e a b : Term) (op : Op) (is : e ≡ bin op a b) where
    parts : map f (occurrences e) ≡ map f (occurrences a) ++ map f (occurrences b)
    parts = ap (λ u. map f (occurrences u)) is ∙ map-append f (occurrences a) (occurrences b)

    pub at_both : (r : Result (Unit {0}) CheckFault) → first_false (map f (occurrences a)) ≡ None → Decides (map f (occurrences b)) r
        → Decides (map f (occurrences e)) r
    at_both r none h = subst (λ es. Decides es r) (sym parts) (append_decided (map f (occurrences a)) (map f (occurrences b)) r none h)

    pub at_first : (fault : CheckFault) → Decides (map f (occurrences a)) (Err fault) → Decides (map f (occurrences e)) (Err fault)
    at_first fault h = subst (λ es. Decides es (Err fault)) (sym parts) (append_refused (map f (occurrences a)) (map f (occurrences b)) fault h)

  -- each occurrence has the obligation that the variable has
  pub over_vars : (e : Term) (r : Result (Unit {0}) CheckFault) → Decides (map f (occurrences e)) r → Decides (map f (vars e)) r
  over_vars e r h = same_decided (map f (occurrences e)) (map f (vars e)) r (sym (distinct_map_same f (occurrences e))) h

  -- where each variable passes a test, and what passes it holds
  pub each_held : (test : ℕ → Bool) → ((x : ℕ) → test x ≡ true → first_false (f x ∷ []) ≡ None) → (e : Term) → each_variable test e ≡ true
      → first_false (map f (occurrences e)) ≡ None
  each_held test held (const k) h = refl
  each_held test held (var x) h = held x h
  each_held test held (neg e) h = each_held test held e h
  each_held test held (bin op a b) h =
      let both = and_parts (each_variable test a) (each_variable test b) h in
      ap first_false (map-append f (occurrences a) (occurrences b))
      ∙ append_held (map f (occurrences a)) (map f (occurrences b)) (each_held test held a both.0) ∙ each_held test held b both.1

-- an obligation whose truth value is another's
pub same_test : (t place : ℕ) (rule : Rule) (shown name : Detail) (b d : Bool) (r : Result (Unit {0}) CheckFault) → shown ≡ name → b ≡ d
    → Decides (thread_obligation t place rule shown b ∷ []) r → Decides (thread_obligation t place rule name d ∷ []) r
same_test t place rule shown name b d r same test h = same_decided (thread_obligation t place rule shown b ∷ []) (thread_obligation t place rule name d ∷ []) r
    (λ i. first_false (thread_obligation t place rule (same i) (test i) ∷ [])) h

-- Counts -------------------------------------------------------------------------------------------------------

-- how many of two lists pass a test
count-append : (f : ℕ → Bool) (xs ys : List ℕ) → count_by f (xs ++ ys) ≡ count_by f xs + count_by f ys
count-append f xs ys = sum_by-append (λ x. cond (f x) 1 0) xs ys

module _ (f : ℕ → Bool) (e a b : Term) (op : Op) (is : e ≡ bin op a b) (most : ℕ) where
  counted : count_by f (occurrences e) ≡ count_by f (occurrences a) + count_by f (occurrences b)
  counted = ap (λ u. count_by f (occurrences u)) is ∙ count-append f (occurrences a) (occurrences b)

  pub past_first : most < count_by f (occurrences a) → most < count_by f (occurrences e)
  past_first h = omega (arith, counted)

  pub in_second : (left : ℕ) (r : Option ℕ) → left + count_by f (occurrences a) ≡ most
      → MatchOption r (left < count_by f (occurrences b)) (λ rest. rest + count_by f (occurrences b) ≡ left)
      → MatchOption r (most < count_by f (occurrences e)) (λ rest. rest + count_by f (occurrences e) ≡ most)
  in_second left None h k = omega (arith, counted)
  in_second left (Some rest) h k = omega (arith, counted)

-- whether something is left of a number tells whether there is at most so much
pub few_tells : (r : Option ℕ) (n k : ℕ) → MatchOption r (k < n) (λ left. left + n ≡ k) → is_some r ≡ nat_le n k
few_tells None n k h = sym (lt-leb n k h)
few_tells (Some left) n k h = sym (le-leb n k (omega arith))
