-- The value that a file is, as `serde_json` reads it, and the whole numbers of values.
use Rattle.std.specs.Prelude.{ℕ, List, ◌++◌, nat_lt, if◌then◌else◌, Option, Some, None, option_and_then, Result, Ok, Err}
use Rattle.std.specs.Str.{is_utf8}
use Rattle.serde_json.specs.Data.{Data}
use Rattle.serde_json.specs.Find.{as_number, as_u64}
use Rattle.serde_json.specs.Read.{read}

-- The value of these bytes, if they have a reading. Of a key that is given twice the last value counts.
abbrev pub value_of : List ℕ → Option Data
value_of bytes = if is_utf8 bytes then read bytes else None

abbrev pub below : (bound : ℕ) → Option ℕ → Option ℕ
below bound None = None
below bound (Some n) = if nat_lt n bound then Some n else None

-- The whole number that a value is, where it is below a bound. `1.0` and `1e2` are no whole numbers.
abbrev pub number_below : (bound : ℕ) → Data → Option ℕ
number_below bound d = below bound (option_and_then as_u64 (as_number d))

-- numbers in front of those that a reading gives
abbrev pub prefixed : {E : Type 0} → List ℕ → Result (List ℕ) E → Result (List ℕ) E
prefixed ns (Ok more) = Ok (ns ++ more)
prefixed ns (Err fault) = Err fault
