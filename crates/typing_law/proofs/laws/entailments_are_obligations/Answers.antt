use Rattle.typing_law.proofs.CertificateLaws.{of_thread, reached_whole}
use Rattle.typing_law.proofs.laws.entailments_are_obligations.Goals as goal

pub returns-clause-obligations : goal.returns-clause-obligations
returns-clause-obligations c = of_thread

pub returns-clause-reached : goal.returns-clause-reached
returns-clause-reached c = reached_whole
