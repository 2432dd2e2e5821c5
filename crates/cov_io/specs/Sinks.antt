-- What a put and a whole write do to a sink.
use Rattle.std.specs.Prelude.{ℕ, ◌<◌, ◌≤◌, List, length, take, Option, None, Result, Ok, Err}
use Rattle.std.specs.Io.KnownBytes.{Appends, Keeps}
use Rattle.cov_io.specs.Counters.{Rose}
use Rattle.cov_io.specs.declared.sink.Failed.{Failed}

-- What a sink means: the bytes put so far, where it tells them, and how often a call failed.
pub record Sunk : Type 0 where
  pub has : Option (List ℕ)
  pub faults : ℕ

-- a sink that tells nothing
abbrev pub silent : ℕ → Sunk
silent faults = record { has = None; faults = faults }

-- What a put answers:
--   Ok(n): the first n bytes are appended, at least one of a piece that isn't empty.
--   Failed: the piece isn't empty, the faults rose, and nothing is appended.
abbrev pub Puts : (before after : Sunk) (piece : List ℕ) → Result ℕ Failed → Type 0
Puts before after piece (Ok n) = (n ≤ length piece) × (0 < length piece → 0 < n) × Appends before.has after.has (take n piece)
Puts before after piece (Err failed) = (0 < length piece) × Rose before.faults after.faults × Keeps before.has after.has

-- A proper prefix of the text is appended.
abbrev pub AppendsPart : Option (List ℕ) → Option (List ℕ) → List ℕ → Type 0
AppendsPart before after text = (k : ℕ) × (k < length text) × Appends before after (take k text)

-- What a whole write answers:
--   Ok: all of the text is appended.
--   Failed: the faults rose, and a proper prefix of the text is appended.
abbrev pub Writes : (before after : Sunk) (text : List ℕ) → Result (Unit {0}) Failed → Type 0
Writes before after text (Ok done) = Appends before.has after.has text
Writes before after text (Err failed) = Rose before.faults after.faults × AppendsPart before.has after.has text

-- by how much an answer raises the faults
abbrev pub faults_of : {X : Type 0} → Result X Failed → ℕ
faults_of (Ok x) = 0
faults_of (Err failed) = 1
