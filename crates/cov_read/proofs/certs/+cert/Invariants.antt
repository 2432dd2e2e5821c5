use Rattle.std.proofs.Common.{◌+◌, ◌*◌, length}
use Rattle.cov_read.proofs.certs.+cert.Given as goal

abbrev pub decreases-read_part : goal.decreases-read_part
decreases-read_part l = 10 * length l.reader.now

abbrev pub decreases-read_one_part : goal.decreases-read_one_part
decreases-read_one_part l = 10 * length l.reader.now + 1

abbrev pub decreases-read_two_parts : goal.decreases-read_two_parts
decreases-read_two_parts l = 10 * length l.reader.now + 2

abbrev pub decreases-read_and : goal.decreases-read_and
decreases-read_and l = 10 * length l.reader.now + 3

abbrev pub decreases-read_use : goal.decreases-read_use
decreases-read_use l = 10 * length l.reader.now + 2

abbrev pub decreases-read_cases : goal.decreases-read_cases
decreases-read_cases l = 10 * length l.reader.now + 3

abbrev pub decreases-read_split : goal.decreases-read_split
decreases-read_split l = 10 * length l.reader.now + 3

abbrev pub decreases-read_have : goal.decreases-read_have
decreases-read_have l = 10 * length l.reader.now + 3

abbrev pub decreases-read_fwd : goal.decreases-read_fwd
decreases-read_fwd l = 10 * length l.reader.now + 2

abbrev pub decreases-read_rev : goal.decreases-read_rev
decreases-read_rev l = 10 * length l.reader.now + 2

abbrev pub decreases-read_axiom : goal.decreases-read_axiom
decreases-read_axiom l = 10 * length l.reader.now + 2

abbrev pub decreases-read_last_certs : goal.decreases-read_last_certs
decreases-read_last_certs l = 10 * length l.reader.now + 1

abbrev pub decreases-read_more_certs : goal.decreases-read_more_certs
decreases-read_more_certs l = 10 * length l.reader.now + 2

abbrev pub decreases-read_certificate : goal.decreases-read_certificate
decreases-read_certificate l = 10 * length l.reader.now + 3

abbrev pub decreases-read_cert : goal.decreases-read_cert
decreases-read_cert l = 10 * length l.reader.now + 4
