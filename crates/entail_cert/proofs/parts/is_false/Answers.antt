use Rattle.std.proofs.Common.{sym, ◌∙◌}
use Rattle.cov_expr.specs.View.{term}
use Rattle.entail_cert.proofs.Truth.{closed_below}
use Rattle.entail_cert.proofs.parts.is_false.Goals as goal

pub eval-requires : goal.eval-requires
eval-requires c = closed_below (term c.args.e.now) 0 (sym c.is_closed.ensures ∙ c.if-is_closed.true)
