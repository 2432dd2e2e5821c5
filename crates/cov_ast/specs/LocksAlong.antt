-- The locks that a thread holds along its text: those that are taken and not given back on the way.
--
-- `held` says of each lock whether the thread holds it.
use Rattle.std.specs.Prelude.{List, [], ◌∷◌, Bool, true, false, length, replicate, set}
use Rattle.cov_ast.specs.Plain.{Cmd, skip, assign, lock, unlock, branch, loop, output, Cmds, none, next, Plain}

-- no lock is held
abbrev pub no_locks : Plain → List Bool
no_locks p = replicate (length p.locks) false

abbrev mutual
  -- Those held after a statement. After a branch they are those at the end of its first block, and after a loop those before it;
  -- where the two ends of a branch or of a turn differ, a rule is broken.
  pub locks_after : Cmd → (held : List Bool) → List Bool
  locks_after skip held = held
  locks_after (assign x e) held = held
  locks_after (lock l) held = set held l true
  locks_after (unlock l) held = set held l false
  locks_after (branch e a b) held = locks_at_end a held
  locks_after (loop e a) held = held
  locks_after (output e) held = held

  -- those held at the end of a block
  pub locks_at_end : Cmds → (held : List Bool) → List Bool
  locks_at_end none held = held
  locks_at_end (next at c cs) held = locks_at_end cs (locks_after c held)

-- a statement, with the locks that are held before it
pub record Located : Type 0 where
  pub held : List Bool
  pub cmd : Cmd

-- the statements of a block, those inside of branches and loops left out
abbrev pub located : Cmds → (held : List Bool) → List Located
located none held = []
located (next at c cs) held = record { held = held; cmd = c } ∷ located cs (locks_after c held)
