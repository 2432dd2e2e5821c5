-- Annotations do nothing.
use Rattle.std.proofs.Common.{◌≡◌, ℕ, List, [], ◌∷◌, map, refl, ap, ap₂, ◌∙◌}
use Rattle.cov_ast.specs.Syntax.{Stm, Block, done, more, Thread, Program}
use Rattle.cov_ast.specs.Syntax as annotated
use Rattle.cov_ast.specs.Plain.{next, branch, loop, plain_stm, plain_block, plain_thread, plain, with_statement, bare_kind, bare_block, bare_thread, bare}

mutual
  stm_bare : (s : Stm) (at : ℕ) (rest : Block) → plain_block (with_statement at (bare_kind s) rest) ≡ plain_stm s at (plain_block rest)
  stm_bare (annotated.branch e a b state) at rest = ap₂ (λ c d. next at (branch e c d) (plain_block rest)) (block_bare a) (block_bare b)
  stm_bare (annotated.loop e state b) at rest = ap (λ c. next at (loop e c) (plain_block rest)) (block_bare b)
  stm_bare _ at rest = refl

  block_bare : (b : Block) → plain_block (bare_block b) ≡ plain_block b
  block_bare done = refl
  block_bare (more at s proofs b) = stm_bare s at (bare_block b) ∙ ap (plain_stm s at) (block_bare b)

threads_bare : (ts : List Thread) → map plain_thread (map bare_thread ts) ≡ map plain_thread ts
threads_bare [] = refl
threads_bare (t ∷ ts) = ap₂ (λ b us. record { name = t.name; modes = t.modes; body = b } ∷ us) (block_bare t.body) (threads_bare ts)

pub plain_bare : (p : Program) → plain (bare p) ≡ plain p
plain_bare p = ap (λ ts. record { vars = p.vars; locks = p.locks; threads = ts }) (threads_bare p.threads)
