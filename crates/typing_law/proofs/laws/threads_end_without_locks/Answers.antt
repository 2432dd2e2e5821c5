use Rattle.typing_law.proofs.Soundness.Ends.{none_held}
use Rattle.typing_law.proofs.laws.threads_end_without_locks.Goals as goal

pub returns : goal.returns
returns c = none_held
