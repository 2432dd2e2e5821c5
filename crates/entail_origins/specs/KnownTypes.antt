-- What is known of the variables at a point, by the locks that are held.
use Rattle.std.specs.Prelude.{ℕ, List, Bool}
use Rattle.cov_ast.specs.LocksAlong.{no_locks}
use Rattle.cov_ast.specs.Plain.{Plain}
use Rattle.entail_origins.specs.declared.known_types.Known.{Known}
use Rattle.point_law.specs.Point.{controls_of}
use Rattle.statement_paths.specs.LocksHeld.{held_along}
use Rattle.statement_paths.specs.Paths.{Step}
use Rattle.statement_paths.specs.VariableSets.{hidden, stable}

-- for a thread that holds these locks
abbrev pub known_at : Plain → (t : ℕ) → (held : List Bool) → Known
known_at p t held = record { controls = controls_of p; stable = stable p t held; hidden = hidden p t held }

-- behind steps from the start of a thread
abbrev pub known_after_steps : Plain → (t : ℕ) → List Step → Known
known_after_steps p t steps = known_at p t (held_along steps (no_locks p))
