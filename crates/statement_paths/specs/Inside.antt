-- Words of private contracts: the way that the code has found so far.
use Rattle.std.specs.Prelude.{◌≡◌, List, map, Option, Some, None}
use Rattle.cov_ast.specs.View as view
use Rattle.cov_ast.specs.declared.stmt.Stmt.{Stmt}
use Rattle.statement_paths.specs.Paths.{Way, step}
use Rattle.statement_paths.specs.declared.way.Step as declared

-- the statement that was found, if any, behind the steps to it
abbrev pub found : List declared.Step → Option Stmt → Option Way
found steps None = None
found steps (Some s) = Some (record { steps = map step steps; stm = view.kind s.kind; proofs = map view.proof s.proofs })

-- where nothing was found, the steps are those from before
abbrev pub kept : {A : Type 0} → Option A → (old new : List declared.Step) → Type 0
kept None old new = new ≡ old
kept (Some s) old new = Unit {0}
