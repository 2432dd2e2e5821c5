-- The locks that a thread holds at a place of its text: those that are taken and not given back on the way to it.
--
-- They are those of the plain text, which notes and other annotations don't change.
use Rattle.std.specs.Prelude.{List, [], ◌∷◌, Bool}
use Rattle.cov_ast.specs.LocksAlong.{locks_at_end}
use Rattle.cov_ast.specs.Plain.{none, plain_stm, plain_block}
use Rattle.cov_ast.specs.Syntax.{Stm, Block}
use Rattle.statement_paths.specs.Paths.{Step, passed, yes, no, head}

-- those held after a statement
abbrev pub held_past : Stm → (held : List Bool) → List Bool
held_past s held = locks_at_end (plain_stm s 0 none) held

-- those held at the end of a block
abbrev pub held_at_end : Block → (held : List Bool) → List Bool
held_at_end b held = locks_at_end (plain_block b) held

-- those held after a step
abbrev pub held_after : Step → (held : List Bool) → List Bool
held_after (passed at s) held = held_past s held
held_after (yes at e) held = held
held_after (no at e) held = held
held_after (head at inv) held = held

-- those held after steps
abbrev pub held_along : List Step → (held : List Bool) → List Bool
held_along [] held = held
held_along (s ∷ steps) held = held_along steps (held_after s held)
