-- An expression as plain data, and its value in a memory.
--
-- Words have 32 bits. Arithmetic wraps, comparisons are unsigned, and both operands of `&&` and `||` are evaluated.
-- No expression fails.
use Rattle.std.specs.Prelude.{ℕ, zero, suc, ◌+◌, ◌-◌, ◌*◌, ◌%◌, ◌^◌, ◌==◌, nat_lt, nat_le, bit_and, bit_or, bit_xor, List, Bool, true, false, not, ◌&&◌, ◌||◌, get_or}
use Rattle.cov_expr.specs.declared.expr.Op.{Op}
use Rattle.cov_expr.specs.declared.expr.Op.TheVariants.{Add, Sub, Mul, And, Or, Xor, Eq, Ne, Lt, Le, Both, Either}

pub data Term : Type 0 where
  const : ℕ → Term
  var : ℕ → Term
  neg : Term → Term
  bin : Op → Term → Term → Term

-- a truth value as a word
abbrev pub flag : Bool → ℕ
flag true = 1
flag false = 0

-- whether a word counts as true: each but 0 does
abbrev pub is_set : ℕ → Bool
is_set zero = false
is_set (suc n) = true

abbrev pub apply : Op → ℕ → ℕ → ℕ
apply Add a b = (a + b) % 2 ^ 32
apply Sub a b = (a + (2 ^ 32 - b)) % 2 ^ 32
apply Mul a b = (a * b) % 2 ^ 32
apply And a b = bit_and a b
apply Or a b = bit_or a b
apply Xor a b = bit_xor a b
apply Eq a b = flag (a == b)
apply Ne a b = flag (not (a == b))
apply Lt a b = flag (nat_lt a b)
apply Le a b = flag (nat_le a b)
apply Both a b = flag (is_set a && is_set b)
apply Either a b = flag (is_set a || is_set b)

-- the value in a memory; a variable past its end is 0
abbrev pub value : Term → List ℕ → ℕ
value (const k) m = k
value (var x) m = get_or m x 0
value (neg e) m = flag (not (is_set (value e m)))
value (bin op a b) m = apply op (value a m) (value b m)
