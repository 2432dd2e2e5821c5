-- What runs take, as contracts see it.
use Rattle.std.specs.Prelude.{◌≤◌, ℕ, List, length}
use Rattle.replay_inputs.specs.Inputs as pure
use Rattle.replay_inputs.specs.declared.runs.PairInput.{PairInput}
use Rattle.replay_inputs.specs.declared.runs.RunInput.{RunInput}
use Rattle.replay_inputs.specs.declared.runs.Starts.{Starts}
use Rattle.cov_ast.specs.Ready.{IsReady}
use Rattle.cov_ast.specs.Syntax.{Parsed}
use Rattle.cov_ast.specs.View as view
use Rattle.cov_ast.specs.declared.decl.Program.{Program}
use Rattle.cov_expr.specs.Words.{IsMemory, IsSchedule}
use Rattle.cov_expr.specs.declared.limits.TheConstants.{MOST_ENTRIES}

abbrev pub run_input : RunInput → pure.RunInput
run_input i = record { program = view.parsed i.parsed; memory = i.memory; schedule = i.entries }

abbrev pub pair_input : PairInput → pure.PairInput
pair_input i = record { program = view.parsed i.parsed; left = i.left; right = i.right; schedule = i.entries }

-- two starts and a schedule, beside their program
abbrev pub starts_of : Parsed → Starts → pure.PairInput
starts_of p i = record { program = p; left = i.left; right = i.right; schedule = i.entries }

-- The program is one as a text gives it, and the start and the schedule are of it.
pub record IsRunInput (i : RunInput) : Type 0 where
  pub ready : IsReady (view.parsed i.parsed)
  pub memory : IsMemory (length i.parsed.vars) i.memory
  pub threads : IsSchedule (length i.parsed.threads) i.entries
  pub few : length i.entries ≤ MOST_ENTRIES

-- The program is one as a text gives it, and both starts and the schedule are of it.
pub record IsPairInput (i : PairInput) : Type 0 where
  pub ready : IsReady (view.parsed i.parsed)
  pub left : IsMemory (length i.parsed.vars) i.left
  pub right : IsMemory (length i.parsed.vars) i.right
  pub threads : IsSchedule (length i.parsed.threads) i.entries
  pub few : length i.entries ≤ MOST_ENTRIES

-- A memory and a schedule are of a program.
pub record IsRunOf (p : Program) (memory schedule : List ℕ) : Type 0 where
  pub fits : IsMemory (length p.vars) memory
  pub threads : IsSchedule (length p.threads) schedule
  pub few : length schedule ≤ MOST_ENTRIES
