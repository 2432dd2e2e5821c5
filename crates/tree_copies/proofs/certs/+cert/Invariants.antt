use Rattle.std.proofs.Common.{◌+◌, ◌*◌}
use Rattle.cov_ast.specs.View.{cert}
use Rattle.cov_ast.proofs.CertSizes.{nodes}
use Rattle.tree_copies.proofs.certs.+cert.Given as goal

-- a certificate has more nodes than its parts, and a function calls only those of a lower rank at one of the same size

abbrev pub decreases-copy_cert : goal.decreases-copy_cert
decreases-copy_cert l = 4 * nodes (cert l.cert.now)

abbrev pub decreases-copy_part : goal.decreases-copy_part
decreases-copy_part l = 4 * nodes (cert l.cert.now) + 1

abbrev pub decreases-copy_parts : goal.decreases-copy_parts
decreases-copy_parts l = 4 * (nodes (cert l.c.now) + nodes (cert l.d.now)) + 2

abbrev pub decreases-copy_left : goal.decreases-copy_left
decreases-copy_left l = 4 * nodes (cert l.c.now) + 2

abbrev pub decreases-copy_right : goal.decreases-copy_right
decreases-copy_right l = 4 * nodes (cert l.c.now) + 2

abbrev pub decreases-copy_use : goal.decreases-copy_use
decreases-copy_use l = 4 * nodes (cert l.c.now) + 2

abbrev pub decreases-copy_not : goal.decreases-copy_not
decreases-copy_not l = 4 * nodes (cert l.c.now) + 2

abbrev pub decreases-copy_contra : goal.decreases-copy_contra
decreases-copy_contra l = 4 * nodes (cert l.c.now) + 2

abbrev pub decreases-copy_fwd : goal.decreases-copy_fwd
decreases-copy_fwd l = 4 * nodes (cert l.c.now) + 2

abbrev pub decreases-copy_rev : goal.decreases-copy_rev
decreases-copy_rev l = 4 * nodes (cert l.c.now) + 2

abbrev pub decreases-copy_axiom : goal.decreases-copy_axiom
decreases-copy_axiom l = 4 * nodes (cert l.c.now) + 2

abbrev pub decreases-copy_and : goal.decreases-copy_and
decreases-copy_and l = 4 * (nodes (cert l.c.now) + nodes (cert l.d.now)) + 3

abbrev pub decreases-copy_cases : goal.decreases-copy_cases
decreases-copy_cases l = 4 * (nodes (cert l.c.now) + nodes (cert l.d.now)) + 3

abbrev pub decreases-copy_split : goal.decreases-copy_split
decreases-copy_split l = 4 * (nodes (cert l.c.now) + nodes (cert l.d.now)) + 3

abbrev pub decreases-copy_have : goal.decreases-copy_have
decreases-copy_have l = 4 * (nodes (cert l.c.now) + nodes (cert l.d.now)) + 3
