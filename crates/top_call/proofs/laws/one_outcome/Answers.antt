use Rattle.top_call.proofs.OutcomeLaws.{one_reply}
use Rattle.top_call.proofs.laws.one_outcome.Goals as goal

pub returns : goal.returns
returns c = one_reply
