use Rattle.std.proofs.Common.{◌+◌, ◌*◌}
use Rattle.cov_expr.specs.Trees.{nodes}
use Rattle.cov_expr.specs.View.{term}
use Rattle.entail_ring.proofs.forms.+form.Given as goal

-- that of an operation is below that of its whole, and above that of each operand
abbrev pub decreases-normal_over : goal.decreases-normal_over
decreases-normal_over l = 2 * nodes (term l.e.now)

abbrev pub decreases-combined : goal.decreases-combined
decreases-combined l = 2 * (nodes (term l.a.now) + nodes (term l.b.now)) + 1
