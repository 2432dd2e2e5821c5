-- The smaller of numbers, where there are some.
use Rattle.std.specs.Prelude.{ℕ, min, nat_lt, if◌then◌else◌, Option, Some, None}

-- the smaller of two numbers, where there are both
abbrev pub earlier : Option ℕ → Option ℕ → Option ℕ
earlier None b = b
earlier (Some x) None = Some x
earlier (Some x) (Some y) = Some (min x y)

-- a number, if it is below an end
abbrev pub if_below : (end : ℕ) → Option ℕ → Option ℕ
if_below end None = None
if_below end (Some x) = if nat_lt x end then Some x else None
