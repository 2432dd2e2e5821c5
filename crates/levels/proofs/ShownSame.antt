-- What an observer is shown of a program does the same as the program.
use Rattle.std.proofs.Common.{◌≡◌, ℕ, List, [], ◌∷◌, map, Bool, Option, refl, ap, ap₂, ◌∙◌}
use Rattle.cov_ast.specs.Syntax.{Stm, Block, done, more, Thread, Program}
use Rattle.cov_ast.specs.Syntax as s
use Rattle.cov_ast.specs.Plain.{Cmds, next, branch, loop, plain_stm, plain_block, plain_thread, plain}
use Rattle.level_text.specs.Lattice.{Levels}
use Rattle.levels.specs.Projection.{marks_of, marked_stm, marked_block, marked_thread, shown_vars, shown}

module _ (marks : List (Option ℕ)) where
  mutual
    stm_same : (c : Stm) (at : ℕ) (rest : Cmds) → plain_stm (marked_stm marks c) at rest ≡ plain_stm c at rest
    stm_same (s.branch e a b join) at rest = ap₂ (λ c d. next at (branch e c d) rest) (block_same a) (block_same b)
    stm_same (s.loop e inv b) at rest = ap (λ c. next at (loop e c) rest) (block_same b)
    stm_same _ at rest = refl

    block_same : (b : Block) → plain_block (marked_block marks b) ≡ plain_block b
    block_same done = refl
    block_same (more at c proofs b) = stm_same c at (plain_block (marked_block marks b)) ∙ ap (plain_stm c at) (block_same b)

  threads_same : (ts : List Thread) → map plain_thread (map (marked_thread marks) ts) ≡ map plain_thread ts
  threads_same [] = refl
  threads_same (t ∷ ts) = ap₂ (λ b us. record { name = t.name; modes = t.modes; body = b } ∷ us) (block_same t.body) (threads_same ts)

pub same_but_classes : (seen : List Bool) (l : Levels) (p : Program) → plain (shown seen l p) ≡ record (plain p) { vars = shown_vars seen l 0 p.vars }
same_but_classes seen l p = ap (λ ts. record { vars = shown_vars seen l 0 p.vars; locks = p.locks; threads = ts }) (threads_same (marks_of seen l p.vars) p.threads)
