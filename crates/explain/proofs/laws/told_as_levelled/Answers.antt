use Rattle.explain.proofs.LevelReplies.{told_levelled}
use Rattle.explain.proofs.laws.told_as_levelled.Goals as goal

pub returns : goal.returns
returns c = told_levelled
