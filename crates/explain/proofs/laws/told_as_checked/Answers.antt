use Rattle.explain.proofs.CallLaws.{told_checked}
use Rattle.explain.proofs.laws.told_as_checked.Goals as goal

pub returns : goal.returns
returns c = told_checked
