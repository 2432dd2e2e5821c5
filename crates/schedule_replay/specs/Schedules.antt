-- What a JSON value says as a schedule: a list of numbers of threads, which are counted from 0.
use Rattle.std.specs.Prelude.{◌≡◌, ℕ, suc, List, [], ◌∷◌, nat_lt, if◌then◌else◌, Option, Some, None, Result, Ok, Err}
use Rattle.cov_expr.specs.declared.limits.TheConstants.{MOST_ENTRIES}
use Rattle.serde_json.specs.Data.{Data, Items, no_items, item}
use Rattle.serde_json.specs.Events.{items_len}
use Rattle.serde_json.specs.Find.{as_array}
use Rattle.schedule_replay.specs.Json.{number_below, prefixed}
use Rattle.schedule_replay.specs.declared.fault.ScheduleFault.{ScheduleFault}
use Rattle.schedule_replay.specs.declared.fault.ScheduleFault.TheVariants as faults

abbrev pub with_entry : ℕ → Option ℕ → Result (List ℕ) ScheduleFault → Result (List ℕ) ScheduleFault
with_entry i None rest = Err (faults.BadEntry i)
with_entry i (Some entry) rest = prefixed (entry ∷ []) rest

-- the entries from an index on, or the first that is no number of one of so many threads
abbrev pub entries_from : (threads : ℕ) → (i : ℕ) → Items → Result (List ℕ) ScheduleFault
entries_from threads i no_items = Ok []
entries_from threads i (item d ds) = with_entry i (number_below threads d) (entries_from threads (suc i) ds)

abbrev pub schedule_at : (threads : ℕ) → Option Items → Result (List ℕ) ScheduleFault
schedule_at threads None = Err faults.NotList
schedule_at threads (Some ds) = if nat_lt MOST_ENTRIES (items_len ds) then Err faults.TooMany else entries_from threads 0 ds

-- The entries, or the first fault. There may be no value.
abbrev pub schedule_of : (threads : ℕ) → Option Data → Result (List ℕ) ScheduleFault
schedule_of threads None = Err faults.Json
schedule_of threads (Some d) = schedule_at threads (as_array d)

-- What is answered is what the value says, unless memory ran out.
abbrev pub GivesSchedule : (answer said : Result (List ℕ) ScheduleFault) → Type 0
GivesSchedule (Err faults.NoMemory) said = Unit {0}
GivesSchedule answer said = said ≡ answer
