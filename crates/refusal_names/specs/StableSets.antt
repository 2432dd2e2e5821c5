-- What types are judged by at a place of a thread: which controls are stable, and by which locks.
use Rattle.std.specs.Prelude.{ℕ, ◌&&◌, List, Bool, length}
use Rattle.cov_ast.specs.Declarations.{is_control}
use Rattle.statement_parts.specs.Parts.{either, none, Nested, parts, turn}
use Rattle.cov_ast.specs.Plain.{Plain}
use Rattle.cov_ast.specs.Syntax.{Stm}
use Rattle.cov_ast.specs.Tables.{table}
use Rattle.statement_paths.specs.LocksHeld.{held_at_end}
use Rattle.mode_state.specs.Sets.{is_stable}

-- for a thread that holds these locks: the controls that no other thread writes
abbrev pub stable_controls : Plain → (t : ℕ) → (held : List Bool) → List Bool
stable_controls p t held = table (length p.vars) (λ x. is_stable p t held x && is_control p x)

-- the locks that are held where blocks meet: where one of two is run, those at the end of the first
abbrev pub held_where_met : Nested → (held : List Bool) → List Bool
held_where_met none held = held
held_where_met (turn b) held = held
held_where_met (either a b) held = held_at_end a held

-- The locks that are held where a statement states what holds, by those in front of it: of a branch, those at the end of its first
-- block.
abbrev pub held_where_stated : Stm → (held : List Bool) → List Bool
held_where_stated s held = held_where_met (parts s).nested held
