-- Where hypotheses are looked for: each expression has a slot among so many, and a hypothesis lies at the slots of the sides that it
-- may bound.
use Rattle.std.specs.Prelude.{ℕ, ◌+◌, ◌*◌, ◌%◌, ◌^◌, Option, Some, None, if◌then◌else◌}
use Rattle.cov_expr.specs.Term.{Term, const, var, neg, bin}
use Rattle.cov_expr.specs.Trees.{op_number}
use Rattle.entail_range.specs.Inside.Speaks.{is_number}

-- a word of two numbers, mostly another one of others
abbrev pub mixed : ℕ → ℕ → ℕ
mixed a b = ((a * 2654435761) % 2 ^ 32 + b) % 2 ^ 32

-- a word of an expression, mostly another one of another expression; no operator has the numbers 12 and 13
abbrev pub key : Term → ℕ
key (const k) = k
key (var x) = mixed 12 x
key (neg a) = mixed 13 (key a)
key (bin op a b) = mixed (mixed (key a) (key b)) (op_number op)

-- the slot of an expression among so many
abbrev pub slot : ℕ → Term → ℕ
slot count e = key e % count

-- the side that a number on the right may bound
abbrev pub left_side : Term → Option Term
left_side (bin op a b) = if is_number b then Some a else None
left_side (const k) = None
left_side (var x) = None
left_side (neg a) = None

-- the side that a number on the left may bound
abbrev pub right_side : Term → Option Term
right_side (bin op a b) = if is_number a then Some b else None
right_side (const k) = None
right_side (var x) = None
right_side (neg a) = None
