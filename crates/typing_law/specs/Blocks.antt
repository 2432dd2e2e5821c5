-- The point after a statement, and after the statements of a block.
use Rattle.std.specs.Prelude.{ℕ, Option, unwrap_or}
use Rattle.cov_expr.specs.Term.{Term, neg}
use Rattle.cov_ast.specs.Syntax.{Stm, skip, assign, lock, unlock, branch, loop, note, output, Block, done, more}
use Rattle.cov_ast.specs.Plain.{Plain}
use Rattle.point_law.specs.Point.{Point, ty}
use Rattle.point_law.specs.After.{after_assign, after_lock, after_unlock, with_guard, meet, noted}

-- the type of an assigned value: the one that is written, else that of its expression
abbrev pub value_type : Plain → (t : ℕ) → Point → Option Term → Term → Term
value_type p t a q e = unwrap_or q (ty p t a e)

module _ (p : Plain) (t : ℕ) where
  abbrev mutual
    pub after_stm : Stm → Point → Point
    after_stm skip a = a
    after_stm (assign x e q retypes) a = after_assign p t a x e (value_type p t a q e) retypes
    after_stm (lock l) a = after_lock p t a l
    after_stm (unlock l) a = after_unlock p t a l
    after_stm (branch e yes_block no_block join) a = meet p t (after_block yes_block (with_guard p t a e)) join
    after_stm (loop e inv b) a = with_guard p t (meet p t a inv) (neg e)
    after_stm (note j) a = noted a j
    after_stm (output e) a = a

    pub after_block : Block → Point → Point
    after_block done a = a
    after_block (more at s proofs b) a = after_block b (after_stm s a)
