-- What statements read and write, with annotations and without.
use Rattle.std.proofs.Common.{◌≡◌, ℕ, List, [], ◌∷◌, ◌++◌, map, flat_map, false, replicate, refl, sym, ap, ap₂, ◌∙◌}
use Rattle.cov_ast.specs.Syntax.{Stm, Block, done, more, Thread, Program}
use Rattle.cov_ast.specs.Syntax as s
use Rattle.cov_ast.specs.Plain.{Cmds, plain_stm, plain_block, plain_thread, plain}
use Rattle.cov_ast.specs.Tables.{table, with_all}
use Rattle.cov_ast.proofs.TableLaws.{with_all_append, with_all_none}
use Rattle.cov_expr.specs.Trees.{occurrences}
use Rattle.explain.specs.Inside.StatementWalks.{stm_reads, block_reads, stm_writes, block_writes}
use Rattle.explain.specs.StatementUses.{read_in, written_in, has_reader, has_writer}

mutual
  stm_read : (c : Stm) (at : ℕ) (xs : List ℕ) (r : Cmds) → xs ≡ read_in r → stm_reads c ++ xs ≡ read_in (plain_stm c at r)
  stm_read (s.assign x e q retypes) at xs r h = ap (λ ys. occurrences e ++ ys) h
  stm_read (s.branch e a d join) at xs r h = ap₂ (λ x y. x ++ y) (ap₂ (λ x y. occurrences e ++ (x ++ y)) (block_read a) (block_read d)) h
  stm_read (s.loop e inv d) at xs r h = ap₂ (λ x y. (occurrences e ++ x) ++ y) (block_read d) h
  stm_read (s.output e) at xs r h = ap (λ ys. occurrences e ++ ys) h
  stm_read _ at xs r h = h

  block_read : (b : Block) → block_reads b ≡ read_in (plain_block b)
  block_read done = refl
  block_read (more at c proofs b) = stm_read c at (block_reads b) (plain_block b) (block_read b)

mutual
  stm_written : (c : Stm) (at : ℕ) (xs : List ℕ) (r : Cmds) → xs ≡ written_in r → stm_writes c ++ xs ≡ written_in (plain_stm c at r)
  stm_written (s.assign x e q retypes) at xs r h = ap (λ ys. x ∷ ys) h
  stm_written (s.branch e a d join) at xs r h = ap₂ (λ x y. x ++ y) (ap₂ (λ x y. x ++ y) (block_written a) (block_written d)) h
  stm_written (s.loop e inv d) at xs r h = ap₂ (λ x y. x ++ y) (block_written d) h
  stm_written _ at xs r h = h

  block_written : (b : Block) → block_writes b ≡ written_in (plain_block b)
  block_written done = refl
  block_written (more at c proofs b) = stm_written c at (block_writes b) (plain_block b) (block_written b)

threads_read : (ts : List Thread) → flat_map (λ t. block_reads t.body) ts ≡ flat_map (λ t. read_in t.body) (map plain_thread ts)
threads_read [] = refl
threads_read (t ∷ ts) = ap₂ (λ x y. x ++ y) (block_read t.body) (threads_read ts)

threads_written : (ts : List Thread) → flat_map (λ t. block_writes t.body) ts ≡ flat_map (λ t. written_in t.body) (map plain_thread ts)
threads_written [] = refl
threads_written (t ∷ ts) = ap₂ (λ x y. x ++ y) (block_written t.body) (threads_written ts)

-- what headers say, with annotations and without
own_read : (ts : List Thread) → flat_map (λ t. t.modes.assume_hide) ts ≡ flat_map (λ t. t.modes.assume_hide) (map plain_thread ts)
own_read [] = refl
own_read (t ∷ ts) = ap (λ xs. t.modes.assume_hide ++ xs) (own_read ts)

own_written : (ts : List Thread)
    → flat_map (λ t. t.modes.assume_nowrite ++ t.modes.assume_hide) ts ≡ flat_map (λ t. t.modes.assume_nowrite ++ t.modes.assume_hide) (map plain_thread ts)
own_written [] = refl
own_written (t ∷ ts) = ap (λ xs. (t.modes.assume_nowrite ++ t.modes.assume_hide) ++ xs) (own_written ts)

-- the marks of what has a reader, and of what has a writer, in an empty set
pub read_table : (p : Program) (n : ℕ)
    → with_all (with_all (replicate n false) (flat_map (λ t. t.modes.assume_hide) p.threads)) (flat_map (λ t. block_reads t.body) p.threads)
    ≡ table n (has_reader (plain p))
read_table p n =
    ap₂ (λ xs ys. with_all (with_all (replicate n false) xs) ys) (own_read p.threads) (threads_read p.threads)
    ∙ sym (with_all_append (replicate n false) (flat_map (λ t. t.modes.assume_hide) (map plain_thread p.threads)) (flat_map (λ t. read_in t.body) (map plain_thread p.threads)))
    ∙ with_all_none n (flat_map (λ t. t.modes.assume_hide) (map plain_thread p.threads) ++ flat_map (λ t. read_in t.body) (map plain_thread p.threads))

pub written_table : (p : Program) (n : ℕ)
    → with_all (with_all (replicate n false) (flat_map (λ t. t.modes.assume_nowrite ++ t.modes.assume_hide) p.threads)) (flat_map (λ t. block_writes t.body) p.threads)
    ≡ table n (has_writer (plain p))
written_table p n =
    ap₂ (λ xs ys. with_all (with_all (replicate n false) xs) ys) (own_written p.threads) (threads_written p.threads)
    ∙ sym (with_all_append (replicate n false) (flat_map (λ t. t.modes.assume_nowrite ++ t.modes.assume_hide) (map plain_thread p.threads))
    (flat_map (λ t. written_in t.body) (map plain_thread p.threads)))
    ∙ with_all_none n
    (flat_map (λ t. t.modes.assume_nowrite ++ t.modes.assume_hide) (map plain_thread p.threads) ++ flat_map (λ t. written_in t.body) (map plain_thread p.threads))
