-- Which hypotheses more may make a leaf valid where none is without them.
use Rattle.std.specs.Prelude.{List, Bool, true, false, ◌&&◌, ◌||◌}
use Rattle.std.specs.List.{list_any}
use Rattle.cov_expr.specs.declared.expr.Op.{Op}
use Rattle.cov_expr.specs.declared.expr.Op.TheVariants.{Add, Sub, Mul, And, Or, Xor, Eq, Ne, Lt, Le, Both, Either}
use Rattle.cov_expr.specs.Term.{Term, const, var, neg, bin}
use Rattle.cov_expr.specs.Trees.{same, conjuncts}
use Rattle.entail_range.specs.Range.{is_comparison}
use Rattle.entail_cert.specs.Valid.{is_false, is_known}

-- whether a number on one side of the operator bounds the other
abbrev pub is_bounding : Op → Bool
is_bounding Eq = true
is_bounding Lt = true
is_bounding Le = true
is_bounding Ne = false
is_bounding Add = false
is_bounding Sub = false
is_bounding Mul = false
is_bounding And = false
is_bounding Or = false
is_bounding Xor = false
is_bounding Both = false
is_bounding Either = false

abbrev pub is_number : Term → Bool
is_number (const k) = true
is_number (var x) = false
is_number (neg a) = false
is_number (bin op a b) = false

-- whether a hypothesis may bound an expression
abbrev pub is_bound : Term → Bool
is_bound (bin op a b) = is_bounding op && (is_number a || is_number b)
is_bound (const k) = false
is_bound (var x) = false
is_bound (neg a) = false

-- whether bounds may give a goal
abbrev pub is_compared : Term → Bool
is_compared (bin op a b) = is_comparison op
is_compared (const k) = false
is_compared (var x) = false
is_compared (neg a) = false

-- whether some of these are conjuncts of the goal
abbrev pub touches : List Term → Term → Bool
touches more goal = list_any (is_known more) (conjuncts goal)

-- whether the first is the negation of the second
abbrev pub denies : Term → Term → Bool
denies (neg a) f = same a f
denies (const k) f = false
denies (var x) f = false
denies (bin op a b) f = false

-- whether one of two denies the other
abbrev pub are_opposite : Term → Term → Bool
are_opposite e f = denies e f || denies f e

-- whether one of these and one of all deny each other
abbrev pub is_opposed : List Term → List Term → Bool
is_opposed all more = list_any (λ e. list_any (are_opposite e) all) more

-- whether hypotheses at the end of all may make a leaf valid
abbrev pub matters : List Term → List Term → Term → Bool
matters all more goal =
    list_any is_false more || touches more goal || (is_compared goal && list_any is_bound more) || is_opposed all more

-- whether two lists of facts have to do with each other, as to a goal
abbrev pub interact : List Term → List Term → Term → Bool
interact xs ys goal =
    (touches xs goal && touches ys goal) || (is_compared goal && list_any is_bound xs && list_any is_bound ys)
    || list_any (λ y. list_any (are_opposite y) xs) ys
