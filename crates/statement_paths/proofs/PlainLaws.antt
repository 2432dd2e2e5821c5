-- A statement in front of others, in the plain text.
use Rattle.std.proofs.Common.{◌≡◌, ℕ, List, Bool, refl}
use Rattle.cov_ast.specs.LocksAlong.{locks_at_end}
use Rattle.cov_ast.specs.Plain.{Cmds, plain_stm}
use Rattle.cov_ast.specs.Syntax.{Stm, skip}
use Rattle.statement_paths.specs.LocksHeld.{held_past}

-- The locks at the end are those that the others leave, from those behind the statement on.
pub after_the_first : (s : Stm) (at : ℕ) (rest : Cmds) (held : List Bool) → locks_at_end (plain_stm s at rest) held ≡ locks_at_end rest (held_past s held)
after_the_first skip at rest held = refl
after_the_first _ at rest held = refl
