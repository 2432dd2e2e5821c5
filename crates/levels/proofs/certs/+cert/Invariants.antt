use Rattle.std.proofs.Common.{◌+◌, ◌*◌}
use Rattle.cov_ast.specs.View.{cert}
use Rattle.cov_ast.proofs.CertSizes.{nodes}
use Rattle.levels.proofs.certs.+cert.Given as goal

-- a certificate has more nodes than its parts, and a function calls only those of a lower rank at one of the same size

abbrev pub decreases-marked_cert : goal.decreases-marked_cert
decreases-marked_cert l = 4 * nodes (cert l.cert.now)

abbrev pub decreases-marked_part : goal.decreases-marked_part
decreases-marked_part l = 4 * nodes (cert l.cert.now) + 1

abbrev pub decreases-marked_parts : goal.decreases-marked_parts
decreases-marked_parts l = 4 * (nodes (cert l.c.now) + nodes (cert l.d.now)) + 2

abbrev pub decreases-marked_left : goal.decreases-marked_left
decreases-marked_left l = 4 * nodes (cert l.c.now) + 2

abbrev pub decreases-marked_right : goal.decreases-marked_right
decreases-marked_right l = 4 * nodes (cert l.c.now) + 2

abbrev pub decreases-marked_use : goal.decreases-marked_use
decreases-marked_use l = 4 * nodes (cert l.c.now) + 2

abbrev pub decreases-marked_not : goal.decreases-marked_not
decreases-marked_not l = 4 * nodes (cert l.c.now) + 2

abbrev pub decreases-marked_contra : goal.decreases-marked_contra
decreases-marked_contra l = 4 * nodes (cert l.c.now) + 2

abbrev pub decreases-marked_fwd : goal.decreases-marked_fwd
decreases-marked_fwd l = 4 * nodes (cert l.c.now) + 2

abbrev pub decreases-marked_rev : goal.decreases-marked_rev
decreases-marked_rev l = 4 * nodes (cert l.c.now) + 2

abbrev pub decreases-marked_axiom : goal.decreases-marked_axiom
decreases-marked_axiom l = 4 * nodes (cert l.c.now) + 2

abbrev pub decreases-marked_and : goal.decreases-marked_and
decreases-marked_and l = 4 * (nodes (cert l.c.now) + nodes (cert l.d.now)) + 3

abbrev pub decreases-marked_cases : goal.decreases-marked_cases
decreases-marked_cases l = 4 * (nodes (cert l.c.now) + nodes (cert l.d.now)) + 3

abbrev pub decreases-marked_split : goal.decreases-marked_split
decreases-marked_split l = 4 * (nodes (cert l.c.now) + nodes (cert l.d.now)) + 3

abbrev pub decreases-marked_have : goal.decreases-marked_have
decreases-marked_have l = 4 * (nodes (cert l.c.now) + nodes (cert l.d.now)) + 3
