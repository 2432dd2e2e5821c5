-- Starts and schedules: what the bytes of a file are read as, and how their faults are shown.
use Rattle.std.specs.Prelude.{◌≡◌, ℕ, List, length, map, Option, Some, None, Ok, Err}
use Rattle.cov_ast.specs.Syntax.{Var, Parsed}
use Rattle.cov_ast.specs.declared.decl.Class.TheVariants as classes
use Rattle.cov_ast.specs.declared.decl.VarDecl.{VarDecl}
use Rattle.schedule_replay.specs.Json.{value_of}
use Rattle.schedule_replay.specs.Schedules.{schedule_of}
use Rattle.schedule_replay.specs.Starts.{start_of}
use Rattle.schedule_replay.specs.declared.fault.ScheduleFault.{ScheduleFault}
use Rattle.schedule_replay.specs.declared.fault.ScheduleFault.TheVariants as schedules
use Rattle.schedule_replay.specs.declared.fault.StartFault.{StartFault}
use Rattle.schedule_replay.specs.declared.fault.StartFault.TheVariants as starts
use Rattle.call_reports.specs.declared.answers.Fault.{Fault}
use Rattle.call_reports.specs.declared.answers.Fault.TheVariants as f

-- Starts -------------------------------------------------------------------------------------------------------

-- a declaration with the name of a variable
abbrev pub declaration_of : Var → VarDecl
declaration_of v = record { name = v.name; at = v.at; class = classes.Low }

-- a fault of a start as reports show it; want of memory is none
abbrev pub start_shown : StartFault → Option Fault
start_shown starts.Json = Some f.Json
start_shown starts.NotObject = Some f.NotObject
start_shown (starts.Missing name) = Some (f.Missing name)
start_shown starts.Unknown = Some f.UnknownKey
start_shown (starts.NotWord name) = Some (f.NotWord name)
start_shown starts.NoMemory = None

-- The bytes are a start: an object with a word for each declared variable, and for nothing else.
abbrev pub IsStart : Parsed → (bytes memory : List ℕ) → Type 0
IsStart p bytes memory = start_of (map declaration_of p.vars) (value_of bytes) ≡ Ok memory

-- The first fault of the bytes, which are no start, is shown so.
abbrev pub IsStartFault : Parsed → (bytes : List ℕ) → Fault → Type 0
IsStartFault p bytes fault = (found : StartFault) × (start_of (map declaration_of p.vars) (value_of bytes) ≡ Err found) × (start_shown found ≡ Some fault)

-- Schedules ----------------------------------------------------------------------------------------------------

abbrev pub schedule_shown : ScheduleFault → Option Fault
schedule_shown schedules.Json = Some f.Json
schedule_shown schedules.NotList = Some f.NotList
schedule_shown schedules.TooMany = Some f.TooMany
schedule_shown (schedules.BadEntry i) = Some (f.BadEntry i)
schedule_shown schedules.NoMemory = None

-- The bytes are a schedule: a list of numbers of threads.
abbrev pub IsScheduleText : Parsed → (bytes schedule : List ℕ) → Type 0
IsScheduleText p bytes schedule = schedule_of (length p.threads) (value_of bytes) ≡ Ok schedule

-- The first fault of the bytes, which are no schedule, is shown so.
abbrev pub IsScheduleFault : Parsed → (bytes : List ℕ) → Fault → Type 0
IsScheduleFault p bytes fault = (found : ScheduleFault) × (schedule_of (length p.threads) (value_of bytes) ≡ Err found) × (schedule_shown found ≡ Some fault)

-- Both together ------------------------------------------------------------------------------------------------

-- what a run takes: a program, a start and a schedule of it
pub record RunInput : Type 0 where
  pub program : Parsed
  pub memory : List ℕ
  pub schedule : List ℕ

-- what two runs take: a program, two starts and a schedule of it
pub record PairInput : Type 0 where
  pub program : Parsed
  pub left : List ℕ
  pub right : List ℕ
  pub schedule : List ℕ
