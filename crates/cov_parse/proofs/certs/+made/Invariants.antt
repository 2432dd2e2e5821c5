use Rattle.std.proofs.Common.{◌+◌, ◌*◌}
use Rattle.cov_read.specs.CertViews as certs
use Rattle.cov_text.specs.Limits.{cert_nodes}
use Rattle.cov_parse.proofs.certs.+made.Given as goal

abbrev pub decreases-cert_of : goal.decreases-cert_of
decreases-cert_of l = 4 * cert_nodes (certs.cert l.cert)

abbrev pub decreases-part_of : goal.decreases-part_of
decreases-part_of l = 4 * cert_nodes (certs.cert l.part.value) + 1

abbrev pub decreases-parts_of : goal.decreases-parts_of
decreases-parts_of l = 4 * (cert_nodes (certs.cert l.first.value) + cert_nodes (certs.cert l.second.value)) + 2

abbrev pub decreases-unpack_of : goal.decreases-unpack_of
decreases-unpack_of l = 4 * cert_nodes (certs.cert l.part.value) + 2

abbrev pub decreases-fwd_of : goal.decreases-fwd_of
decreases-fwd_of l = 4 * cert_nodes (certs.cert l.part.value) + 2

abbrev pub decreases-rev_of : goal.decreases-rev_of
decreases-rev_of l = 4 * cert_nodes (certs.cert l.part.value) + 2

abbrev pub decreases-axiom_of : goal.decreases-axiom_of
decreases-axiom_of l = 4 * cert_nodes (certs.cert l.part.value) + 2

abbrev pub decreases-and_of : goal.decreases-and_of
decreases-and_of l = 4 * (cert_nodes (certs.cert l.first.value) + cert_nodes (certs.cert l.second.value)) + 3

abbrev pub decreases-cases_of : goal.decreases-cases_of
decreases-cases_of l = 4 * (cert_nodes (certs.cert l.first.value) + cert_nodes (certs.cert l.second.value)) + 3

abbrev pub decreases-split_of : goal.decreases-split_of
decreases-split_of l = 4 * (cert_nodes (certs.cert l.first.value) + cert_nodes (certs.cert l.second.value)) + 3

abbrev pub decreases-have_of : goal.decreases-have_of
decreases-have_of l = 4 * (cert_nodes (certs.cert l.first.value) + cert_nodes (certs.cert l.second.value)) + 3
