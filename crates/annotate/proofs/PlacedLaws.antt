-- Certificates that are put in change nothing but proofs.
use Rattle.std.proofs.Common.{◌≡◌, ℕ, zero, suc, ◌+◌, List, [], ◌∷◌, map, get_or, refl, sym, ap, ◌∙◌, arith}
use Rattle.cov_ast.specs.Plain.{Cmds, plain, plain_block, plain_stm, plain_thread}
use Rattle.cov_ast.specs.Plain as code
use Rattle.cov_ast.specs.Syntax.{Cert, Stm, branch, loop, Block, done, more, Thread, Program}
use Rattle.mode_compat.specs.Compatible.{no_thread, numbered}
use Rattle.annotate.specs.WithCertificates.{program_without_proofs, put_in, put_in_program, put_in_stm, put_in_thread, put_in_threads, thread_without_proofs, without_proofs, without_proofs_stm}

-- Without proofs -----------------------------------------------------------------------------------------------

mutual
  plain_stm_same : (c : Stm) (at : ℕ) (rest : Cmds) → plain_stm (without_proofs_stm c) at rest ≡ plain_stm c at rest
  plain_stm_same (branch e a b join) at rest = λ i. code.next at (code.branch e (plain_block_same a i) (plain_block_same b i)) rest
  plain_stm_same (loop e inv b) at rest = λ i. code.next at (code.loop e (plain_block_same b i)) rest
  plain_stm_same _ at rest = refl

  plain_block_same : (b : Block) → plain_block (without_proofs b) ≡ plain_block b
  plain_block_same done = refl
  plain_block_same (more at c proofs b) = λ i. plain_stm_same c at (plain_block_same b i) i

plain_threads_same : (hs : List Thread) → map plain_thread (map thread_without_proofs hs) ≡ map plain_thread hs
plain_threads_same [] = refl
plain_threads_same (h ∷ hs) = λ i. record { name = h.name; modes = h.modes; body = plain_block_same h.body i } ∷ plain_threads_same hs i

pub plain_same : (p : Program) → plain (program_without_proofs p) ≡ plain p
plain_same p = λ i. record { vars = p.vars; locks = p.locks; threads = plain_threads_same p.threads i }

numbered_in : (hs : List Thread) (t : ℕ) → get_or (map thread_without_proofs hs) t no_thread ≡ thread_without_proofs (get_or hs t no_thread)
numbered_in [] t = refl
numbered_in (h ∷ hs) zero = refl
numbered_in (h ∷ hs) (suc t) = numbered_in hs t

pub numbered_same : (p : Program) (t : ℕ) → numbered (program_without_proofs p) t ≡ thread_without_proofs (numbered p t)
numbered_same p t = numbered_in p.threads t

-- With certificates put in -------------------------------------------------------------------------------------

module _ (chosen : (place : ℕ) → List (ℕ × Cert)) where
  mutual
    stm_kept : (c : Stm) → without_proofs_stm (put_in_stm chosen c) ≡ without_proofs_stm c
    stm_kept (branch e a b join) = λ i. branch e (block_kept a i) (block_kept b i) join
    stm_kept (loop e inv b) = λ i. loop e inv (block_kept b i)
    stm_kept _ = refl

    block_kept : (b : Block) → without_proofs (put_in chosen b) ≡ without_proofs b
    block_kept done = refl
    block_kept (more at c proofs b) = λ i. more at (stm_kept c i) [] (block_kept b i)

module _ (chosen : (t place : ℕ) → List (ℕ × Cert)) where
  pub threads_kept : (t : ℕ) (hs : List Thread) → map thread_without_proofs (put_in_threads chosen t hs) ≡ map thread_without_proofs hs
  threads_kept t [] = refl
  threads_kept t (h ∷ hs) =
      λ i. record { name = h.name; at = h.at; modes = h.modes; body = block_kept (chosen t) h.body i; end = h.end } ∷ threads_kept (suc t) hs i

  pub program_kept : (p : Program) → program_without_proofs (put_in_program chosen p) ≡ program_without_proofs p
  program_kept p = λ i. record { version = p.version; vars = p.vars; locks = p.locks; threads = threads_kept 0 p.threads i }

  numbered_from : (n : ℕ) (hs : List Thread) (t : ℕ) → get_or (put_in_threads chosen n hs) t no_thread ≡ put_in_thread (chosen (n + t)) (get_or hs t no_thread)
  numbered_from n [] t = refl
  numbered_from n (h ∷ hs) zero = let e : n ≡ n + 0 = omega arith in ap (λ k. put_in_thread (chosen k) h) e
  numbered_from n (h ∷ hs) (suc t) =
      let e : suc n + t ≡ n + suc t = omega arith in
      numbered_from (suc n) hs t ∙ ap (λ k. put_in_thread (chosen k) (get_or hs t no_thread)) e

  pub numbered_put_in : (p : Program) (t : ℕ) → numbered (put_in_program chosen p) t ≡ put_in_thread (chosen t) (numbered p t)
  numbered_put_in p t = let e : 0 + t ≡ t = omega arith in numbered_from 0 p.threads t ∙ ap (λ k. put_in_thread (chosen k) (numbered p t)) e

  pub plain_kept : (p : Program) → plain (put_in_program chosen p) ≡ plain p
  plain_kept p = sym (plain_same (put_in_program chosen p)) ∙ ap plain (program_kept p) ∙ plain_same p
