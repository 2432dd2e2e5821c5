-- A sink in memory: what it holds, and what each put answers.
use Rattle.std.specs.Prelude.{ℕ, ◌-◌, min, List, [], ◌∷◌, ◌++◌, length, take, ◌==◌, ◌||◌, Option, None, Some, if◌then◌else◌}
use Rattle.cov_io.specs.Counters.{raised}
use Rattle.cov_io.specs.MemShelves.{is_listed}
use Rattle.cov_io.specs.Sinks.{Sunk}

-- its bytes, how many there is room for, how many a put takes at most, the numbers of the puts that fail, how many
-- puts there were, and its count
pub record Bytes : Type 0 where
  pub bytes : List ℕ
  pub room : ℕ
  pub step : ℕ
  pub fails : List ℕ
  pub calls : ℕ
  pub faults : ℕ

-- before the first put
abbrev pub opened : ℕ → ℕ → List ℕ → Bytes
opened room step fails = record { bytes = []; room = room; step = step; fails = fails; calls = 0; faults = 0 }

-- It tells what it has.
abbrev pub sunk_of : Bytes → Sunk
sunk_of s = record { has = Some s.bytes; faults = s.faults }

-- how many bytes of a piece the next put takes, where it doesn't fail: as many as the step and the room allow
abbrev pub next_count : Bytes → List ℕ → ℕ
next_count s piece = min (min (length piece) s.step) (s.room - length s.bytes)

-- What the next put takes, and None where it fails: puts of pieces that aren't empty are numbered from 1. It fails
-- where its number is listed and where the room is used up.
abbrev pub next_put : Bytes → List ℕ → Option ℕ
next_put s piece =
    if length piece == 0 then Some 0 else
    if is_listed s.fails (raised s.calls 1) || next_count s piece == 0 then None else Some (next_count s piece)

-- the sink behind a put of a piece that isn't empty and of which so many bytes were taken
abbrev pub after_some : Bytes → List ℕ → Option ℕ → Bytes
after_some s piece (Some n) = record { bytes = s.bytes ++ take n piece; room = s.room; step = s.step; fails = s.fails; calls = raised s.calls 1; faults = s.faults }
after_some s piece None = record { bytes = s.bytes; room = s.room; step = s.step; fails = s.fails; calls = raised s.calls 1; faults = raised s.faults 1 }

-- the sink behind a put of a piece, of which so many bytes were taken
abbrev pub after_put : Bytes → List ℕ → Option ℕ → Bytes
after_put s [] count = s
after_put s (b ∷ bs) count = after_some s (b ∷ bs) count
