use Rattle.explain.proofs.ClosedLaws.{no_start, no_start_of_zero}
use Rattle.explain.proofs.warning_laws.no_start_meets.Goals as goal

pub returns-clause-shown : goal.returns-clause-shown
returns-clause-shown c = no_start

pub returns-clause-zero : goal.returns-clause-zero
returns-clause-zero c = no_start_of_zero
