-- What a sink over the calls of a system means, and how its faults come from those calls.
use Rattle.std.specs.Prelude.{ℕ, List, Result, Ok, Err}
use Rattle.cov_io.specs.Calls.{Troubles, HasNoError, IsFault, after_write}
use Rattle.cov_io.specs.Counters.{raised}
use Rattle.cov_io.specs.Sinks.{Sunk, faults_of}
use Rattle.cov_io.specs.declared.sink.Failed.{Failed}

-- what a sink means, and how its calls of the system went
pub record Writing : Type 0 where
  pub sunk : Sunk
  pub troubles : Troubles

-- the sink behind a put of a piece that gave this answer
abbrev pub after_answer : Sunk → List ℕ → Result ℕ Failed → Sunk
after_answer s piece answer = record { has = after_write s.has piece answer; faults = raised s.faults (faults_of answer) }

-- The causes of an answer among the calls: an error is a fault, and what isn't a fault had no error.
abbrev pub IsPutCaused : (before after : Troubles) → Result ℕ Failed → Type 0
IsPutCaused before after (Ok n) = HasNoError before after
IsPutCaused before after (Err fault) = IsFault before after
