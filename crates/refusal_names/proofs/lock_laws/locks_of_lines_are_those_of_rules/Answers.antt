use Rattle.refusal_names.proofs.StepLocks.{same_locks}
use Rattle.refusal_names.proofs.lock_laws.locks_of_lines_are_those_of_rules.Goals as goal

pub returns : goal.returns
returns c = same_locks
