use Rattle.std.proofs.Common.{rules}
use Rattle.entail_cert.proofs.walk.Walk.+check.Goals as goal

pub cases-returns-clause-finds : goal.cases-returns-clause-finds
cases-returns-clause-finds t c = search rules
