use Rattle.refusal_names.proofs.ChangeLaws.{some_apart}
use Rattle.refusal_names.proofs.lock_laws.some_lock_differs.Goals as goal

pub returns : goal.returns
returns c = some_apart
