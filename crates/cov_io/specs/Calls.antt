-- How the calls of a system went, and what they do to the bytes that are known.
use Rattle.std.specs.Prelude.{◌≡◌, ◌⊎◌, ℕ, ◌+◌, ◌-◌, ◌<◌, ◌≤◌, List, take, Option, Some, None, Result, Ok, Err}
use Rattle.std.specs.Io.KnownBytes.{append_known}
use Rattle.cov_io.specs.Counters.{GrewPast, raised}
use Rattle.cov_io.specs.declared.counts.TheConstants.{RETRIES}
use Rattle.cov_io.specs.declared.trouble.CallError.{CallError}
use Rattle.cov_io.specs.declared.trouble.CallError.TheVariants.{Interrupted, Other}

-- how often a call was interrupted by a signal, and how often one failed for another cause
pub record Troubles : Type 0 where
  pub interrupts : ℕ
  pub errors : ℕ

-- before the first call
abbrev pub no_troubles : Troubles
no_troubles = record { interrupts = 0; errors = 0 }

-- some interrupts more
abbrev pub interrupted : Troubles → ℕ → Troubles
interrupted t by = record { interrupts = raised t.interrupts by; errors = t.errors }

-- one error more
abbrev pub failed : Troubles → Troubles
failed t = record { interrupts = t.interrupts; errors = raised t.errors 1 }

-- the counts behind a call that failed so
abbrev pub after_error : Troubles → CallError → Troubles
after_error t Interrupted = interrupted t 1
after_error t Other = failed t

-- the counts behind a read or a write
abbrev pub after_call : Troubles → Result ℕ CallError → Troubles
after_call t (Ok n) = t
after_call t (Err error) = after_error t error

-- the counts behind an open, which gives None where it failed
abbrev pub after_open : {X : Type 0} → Troubles → Option X → Troubles
after_open t (Some file) = t
after_open t None = failed t

-- No count fell.
abbrev pub IsLater : (before after : Troubles) → Type 0
IsLater before after = (before.interrupts ≤ after.interrupts) × (before.errors ≤ after.errors)

-- No call failed but by a signal.
abbrev pub HasNoError : (before after : Troubles) → Type 0
HasNoError before after = (before.interrupts ≤ after.interrupts) × (after.errors ≡ before.errors)

-- One call failed, and not by a signal.
abbrev pub HasOneError : (before after : Troubles) → Type 0
HasOneError before after = (before.interrupts ≤ after.interrupts) × (after.errors ≡ raised before.errors 1)

-- as many interrupts or more as a call is made again, or as many as can be counted
abbrev pub HasManyInterrupts : (before after : Troubles) → Type 0
HasManyInterrupts before after = GrewPast (RETRIES - 1) before.interrupts after.interrupts

-- What a call that is made again where a signal interrupts it does to the counts, by its last answer:
--   Ok: there was no error.
--   Interrupted: there was no error, but an interrupt for each time that it was made.
--   Other: there was one error, the last answer.
-- It is made RETRIES times at most.
abbrev pub Tries : (before after : Troubles) → Result ℕ CallError → Type 0
Tries before after (Ok n) = HasNoError before after × (after.interrupts < before.interrupts + RETRIES)
Tries before after (Err Interrupted) = HasNoError before after × HasManyInterrupts before after × (after.interrupts ≤ before.interrupts + RETRIES)
Tries before after (Err Other) = HasOneError before after × (after.interrupts < before.interrupts + RETRIES)

-- A fault stands for one error, or for as many interrupts as a call is made again.
abbrev pub IsFault : (before after : Troubles) → Type 0
IsFault before after = HasOneError before after ⊎ (HasNoError before after × HasManyInterrupts before after)

-- what a write of a piece does to the bytes that an output has, where those are known
abbrev pub after_write : {E : Type 0} → Option (List ℕ) → List ℕ → Result ℕ E → Option (List ℕ)
after_write has piece (Ok n) = append_known has (take n piece)
after_write has piece (Err error) = has
