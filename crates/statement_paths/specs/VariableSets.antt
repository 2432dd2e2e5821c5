-- The sets of variables that rules ask for at a place of a thread, which holds some locks there.
use Rattle.std.specs.Prelude.{ℕ, List, Bool, length}
use Rattle.cov_ast.specs.Plain.{Plain}
use Rattle.cov_ast.specs.Tables.{table}
use Rattle.cov_ast.specs.LocksAlong.{no_locks}
use Rattle.statement_paths.specs.LocksHeld.{held_along}
use Rattle.mode_state.specs.Sets.{is_hidden, is_stable}
use Rattle.statement_paths.specs.Paths.{Step}

-- what no other thread writes
abbrev pub stable : Plain → (t : ℕ) → (held : List Bool) → List Bool
stable p t held = table (length p.vars) (is_stable p t held)

-- what no other thread reads or writes
abbrev pub hidden : Plain → (t : ℕ) → (held : List Bool) → List Bool
hidden p t held = table (length p.vars) (is_hidden p t held)

-- the same behind steps from the start of the thread's text
abbrev pub stable_after_steps : Plain → (t : ℕ) → List Step → List Bool
stable_after_steps p t steps = stable p t (held_along steps (no_locks p))

abbrev pub hidden_after_steps : Plain → (t : ℕ) → List Step → List Bool
hidden_after_steps p t steps = hidden p t (held_along steps (no_locks p))
