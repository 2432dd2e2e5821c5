use Rattle.std.proofs.Common.{◌+◌, ◌*◌}
use Rattle.cov_ast.specs.View.{cert}
use Rattle.cov_ast.proofs.CertSizes.{nodes}
use Rattle.entail_cert.proofs.walk.Walk.+check.Given as goal

-- a node is larger than its children, and a function calls only those of a lower rank at a certificate of the same size

abbrev pub decreases-node : goal.decreases-node
decreases-node l = 5 * nodes (cert l.cert.now) + 1

abbrev pub decreases-with_one_child : goal.decreases-with_one_child
decreases-with_one_child l = 5 * nodes (cert l.cert.now)

abbrev pub decreases-conjunction : goal.decreases-conjunction
decreases-conjunction l = 5 * (nodes (cert l.c.now) + nodes (cert l.d.now)) + 4

abbrev pub decreases-cases : goal.decreases-cases
decreases-cases l = 5 * (nodes (cert l.c.now) + nodes (cert l.d.now)) + 4

abbrev pub decreases-split : goal.decreases-split
decreases-split l = 5 * (nodes (cert l.c.now) + nodes (cert l.d.now)) + 4

abbrev pub decreases-have : goal.decreases-have
decreases-have l = 5 * (nodes (cert l.c.now) + nodes (cert l.d.now)) + 4

abbrev pub decreases-left : goal.decreases-left
decreases-left l = 5 * nodes (cert l.c.now) + 4

abbrev pub decreases-right : goal.decreases-right
decreases-right l = 5 * nodes (cert l.c.now) + 4

abbrev pub decreases-unpack : goal.decreases-unpack
decreases-unpack l = 5 * nodes (cert l.c.now) + 4

abbrev pub decreases-negation : goal.decreases-negation
decreases-negation l = 5 * nodes (cert l.c.now) + 4

abbrev pub decreases-contra : goal.decreases-contra
decreases-contra l = 5 * nodes (cert l.c.now) + 4

abbrev pub decreases-forward : goal.decreases-forward
decreases-forward l = 5 * nodes (cert l.c.now) + 4

abbrev pub decreases-backward : goal.decreases-backward
decreases-backward l = 5 * nodes (cert l.c.now) + 4

abbrev pub decreases-axiom : goal.decreases-axiom
decreases-axiom l = 5 * nodes (cert l.c.now) + 4

abbrev pub decreases-under : goal.decreases-under
decreases-under l = 5 * nodes (cert l.c.now) + 3

abbrev pub decreases-child : goal.decreases-child
decreases-child l = 5 * nodes (cert l.c.now) + 2
