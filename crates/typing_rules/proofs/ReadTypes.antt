-- The variables of an expression are in range.
use Rattle.std.proofs.Common.{ℕ, ◌<◌, List, [], ◌∷◌, ◌++◌, Bool, true, false, All, if◌then◌else◌}
use Rattle.std.proofs.lemmas.List.Elements.{All-append, All-cons, All-head, All-nil, All-push, All-tail}
use Rattle.cov_expr.specs.Term.{Term, const, var, neg, bin}
use Rattle.cov_expr.specs.Trees.{add_new, has_number, occurrences, vars}
use Rattle.cov_expr.specs.Words.{HasVarsBelow}

module _ (n : ℕ) where
  abbrev IsBelow : ℕ → Type 0
  IsBelow x = x < n

  occurrences_below : (e : Term) → HasVarsBelow e n → All IsBelow (occurrences e)
  occurrences_below (const k) h = All-nil IsBelow
  occurrences_below (var x) h = All-cons IsBelow x [] h (All-nil IsBelow)
  occurrences_below (neg e) h = occurrences_below e h
  occurrences_below (bin op a b) h = All-append IsBelow (occurrences a) (occurrences b) (occurrences_below a h.0) (occurrences_below b h.1)

  new_below : (xs ys : List ℕ) → All IsBelow xs → All IsBelow ys → All IsBelow (add_new xs ys)
  new_below xs [] h k = h
  new_below xs (y ∷ ys) h k = new_below (if has_number xs y then xs else xs ++ y ∷ []) ys (added (has_number xs y)) (All-tail IsBelow y ys k)
    where
      added : (b : Bool) → All IsBelow (if b then xs else xs ++ y ∷ [])
      added true = h
      added false = All-push IsBelow xs y h (All-head IsBelow y ys k)

  pub vars_below : (e : Term) → HasVarsBelow e n → All IsBelow (vars e)
  vars_below e h = new_below [] (occurrences e) (All-nil IsBelow) (occurrences_below e h)
