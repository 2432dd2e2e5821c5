-- Counts of 64 bits, which stand still at their last value.
use Rattle.std.specs.Prelude.{ℕ, ◌+◌, ◌-◌, ◌^◌, ◌≤◌, min}

-- where a count stands still
abbrev pub last_count : ℕ
last_count = 2 ^ 64 - 1

-- a count that rises by a number, or as far as it can
abbrev pub raised : ℕ → ℕ → ℕ
raised count by = min (count + by) last_count

-- The count rose by n + 1 or more, or as far as it can: it grew by more than n, or stands at its last value.
-- (`grew_or_stands` and `stands_or_grew` of proofs/CountLaws say that these are the same.)
abbrev pub GrewPast : ℕ → ℕ → ℕ → Type 0
GrewPast n before now = raised before (n + 1) ≤ now

-- The count rose: it is larger than before, or stands at its last value.
abbrev pub Rose : ℕ → ℕ → Type 0
Rose before now = GrewPast 0 before now
