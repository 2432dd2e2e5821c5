use Rattle.std.proofs.Common.{sym, arith}
use Rattle.cov_expr.specs.View.{term}
use Rattle.entail_range.specs.Range.{lent}
use Rattle.cert_search.proofs.Irrelevant.{lent_irrelevant}
use Rattle.cert_search.proofs.leaves.leaf_after.Goals as goal

pub returns : goal.returns
returns c =
    sym (lent_irrelevant lent c.args.hyps.now c.args.tried (term c.args.goal.now) c.matters.result (c.requires.none (omega arith)) c.matters.ensures c.if-matters.false)
