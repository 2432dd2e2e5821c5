-- The key of an expression, by which equal expressions are found.
use Rattle.std.specs.Prelude.{ℕ, ◌+◌, ◌*◌, ◌%◌, ◌^◌, List, [], ◌∷◌, ◌++◌, fold}
use Rattle.cov_expr.specs.Term.{Term, const, var, neg, bin}
use Rattle.cov_expr.specs.Trees.{op_number}

-- The words of an expression in pre-order: 0 and k for a number k, 1 and x for a variable x, 2 before the part of `!`, and 3 plus
-- the index of the operator before the two parts of an operation.
abbrev pub key : Term → List ℕ
key (const k) = 0 ∷ k ∷ []
key (var x) = 1 ∷ x ∷ []
key (neg e) = 2 ∷ key e
key (bin op a b) = (op_number op + 3) ∷ (key a ++ key b)

-- One number for the words of a key, by which a map looks for it. Other keys may have the same.
abbrev pub digest_from : ℕ → List ℕ → ℕ
digest_from start words = fold (λ d word. ((d * 2654435761) % 2 ^ 64 + word) % 2 ^ 64) start words
