use Rattle.std.proofs.Common.{refl, sym}
use Rattle.cov_expr.proofs.View.{term-Bin, term-Const, term-Var}
use Rattle.annotate.proofs.GoingLaws.{gone_nothing, hole_goes, two_go}
use Rattle.annotate.proofs.uses.Uses.+expr.Goals as goal

pub returns-then-x : goal.returns-then-x
returns-then-x t c = rw (c.in-Var.is, term-Var) (hole_goes _ _ _ c.if-x.true)

pub returns-in-Const : goal.returns-in-Const
returns-in-Const t c = rw (c.in-Const.is, term-Const) (sym (gone_nothing _ _))

pub returns-in_ok-expr-in-Bin : goal.returns-in_ok-expr-in-Bin
returns-in_ok-expr-in-Bin t c =
    rw (c.in-Bin.is, term-Bin, ← c.deref-in-Bin.ensures, ← c.deref-in-Bin-2.ensures)
    (two_go c.expr-in-Bin-2.result _ _ _ _ _ _ _ c.in_ok-expr-in-Bin.ensures c.expr-in-Bin-2.ensures refl)
