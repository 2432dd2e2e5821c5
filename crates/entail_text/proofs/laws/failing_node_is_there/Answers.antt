use Rattle.entail_text.proofs.FailingNodes.{leads}
use Rattle.entail_text.proofs.laws.failing_node_is_there.Goals as goal

pub returns : goal.returns
returns c root path h = leads root.cert root.hyps root.goal path h
