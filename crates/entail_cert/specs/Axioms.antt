-- The axioms that certificates may use, over three letters. Each holds whatever words its letters stand for.
use Rattle.std.specs.Prelude.{ℕ, zero, suc, List, [], ◌∷◌, Option, Some, None, ◌==◌, length, slice_get, get_or, if◌then◌else◌}
use Rattle.cov_expr.specs.declared.expr.Op.TheVariants.{Add, Sub, And, Or, Xor, Eq, Ne, Lt, Le, Both, Either}
use Rattle.cov_expr.specs.Term.{Term, const, var, neg, bin}
use Rattle.cov_expr.specs.Trees.{vars}

-- Schemas ------------------------------------------------------------------------------------------------------

-- the letters, as variables
abbrev a : Term
a = var 0

abbrev b : Term
b = var 1

abbrev c : Term
c = var 2

abbrev eq : Term → Term → Term
eq = bin Eq

abbrev ne : Term → Term → Term
ne = bin Ne

abbrev lt : Term → Term → Term
lt = bin Lt

abbrev le : Term → Term → Term
le = bin Le

abbrev both : Term → Term → Term
both = bin Both

abbrev either : Term → Term → Term
either = bin Either

abbrev pub axioms : List Term
axioms =
    -- 1: a == b || a != b
    either (eq a b) (ne a b)
    -- 2: !(a == b) || b == a
    ∷ either (neg (eq a b)) (eq b a)
    -- 3: !(a != b) || b != a
    ∷ either (neg (ne a b)) (ne b a)
    -- 4: !(a == b) || !(a != b)
    ∷ either (neg (eq a b)) (neg (ne a b))
    -- 5: !(a == b && b == c) || a == c
    ∷ either (neg (both (eq a b) (eq b c))) (eq a c)
    -- 6: a < b || a == b || b < a
    ∷ either (either (lt a b) (eq a b)) (lt b a)
    -- 7: !(a < a)
    ∷ neg (lt a a)
    -- 8: !(a < b && b < c) || a < c
    ∷ either (neg (both (lt a b) (lt b c))) (lt a c)
    -- 9: !(a < b) || a <= b
    ∷ either (neg (lt a b)) (le a b)
    -- 10: !(a <= b) || a < b || a == b
    ∷ either (either (neg (le a b)) (lt a b)) (eq a b)
    -- 11: !(a == b) || a <= b
    ∷ either (neg (eq a b)) (le a b)
    -- 12: !(a <= b && b <= c) || a <= c
    ∷ either (neg (both (le a b) (le b c))) (le a c)
    -- 13: !(a <= b && b <= a) || a == b
    ∷ either (neg (both (le a b) (le b a))) (eq a b)
    -- 14: 0 <= a
    ∷ le (const 0) a
    -- 15: a <= 4294967295
    ∷ le a (const 4294967295)
    -- 16: a + b == b + a
    ∷ eq (bin Add a b) (bin Add b a)
    -- 17: (a + b) - b == a
    ∷ eq (bin Sub (bin Add a b) b) a
    -- 18: a - a == 0
    ∷ eq (bin Sub a a) (const 0)
    -- 19: (a ^ a) == 0
    ∷ eq (bin Xor a a) (const 0)
    -- 20: (a & b) <= a
    ∷ le (bin And a b) a
    -- 21: a <= (a | b)
    ∷ le a (bin Or a b)
    -- 22: a == 0 || 0 < a
    ∷ either (eq a (const 0)) (lt (const 0) a)
    -- 23: (a & b) == (b & a)
    ∷ eq (bin And a b) (bin And b a)
    -- 24: !a || a != 0
    ∷ either (neg a) (ne a (const 0))
    ∷ []

-- Instances ----------------------------------------------------------------------------------------------------

-- the item of a number, where items are numbered from 1
abbrev pub numbered : {A : Type 0} → List A → ℕ → Option A
numbered xs zero = None
numbered xs (suc i) = slice_get xs i

-- a schema with expressions in the place of its letters, all at once
abbrev pub instance : Term → List Term → Term
instance (const k) es = const k
instance (var i) es = get_or es i (const 0)
instance (neg t) es = neg (instance t es)
instance (bin op t u) es = bin op (instance t es) (instance u es)

-- the instance of a schema for as many expressions as it has letters
abbrev pub instance_for : Option Term → List Term → Option Term
instance_for None es = None
instance_for (Some t) es = if length es == length (vars t) then Some (instance t es) else None

-- The axiom of a number, with these expressions for its letters. There is none where the number is no axiom's or
-- where there are more or fewer expressions than letters.
abbrev pub axiom_for : ℕ → List Term → Option Term
axiom_for k es = instance_for (numbered axioms k) es
