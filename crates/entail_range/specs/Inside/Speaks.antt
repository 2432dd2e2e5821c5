-- Which hypotheses can't bound an expression, as their roots and sides' roots show.
use Rattle.std.specs.Prelude.{◌==◌, Bool, true, false, ◌&&◌, ◌||◌}
use Rattle.cov_expr.specs.Term.{Term, const, var, neg, bin}
use Rattle.cov_expr.specs.Trees.{op_number}

abbrev pub is_number : Term → Bool
is_number (const k) = true
is_number (var x) = false
is_number (neg a) = false
is_number (bin op a b) = false

-- whether the roots are equal
abbrev pub are_alike : Term → Term → Bool
are_alike (const j) (const k) = j == k
are_alike (var x) (var y) = x == y
are_alike (neg a) (neg b) = true
are_alike (bin o a b) (bin q c d) = op_number o == op_number q
are_alike _ _ = false

-- whether a hypothesis may bound an expression: one side is a number, and the other is alike
abbrev pub speaks_of : Term → Term → Bool
speaks_of (bin op a b) e = (is_number b && are_alike a e) || (is_number a && are_alike b e)
speaks_of (const k) e = false
speaks_of (var x) e = false
speaks_of (neg a) e = false
