use Rattle.levels.proofs.FirstRefused.{refused_first}
use Rattle.levels.proofs.laws.first_refused_is_first.Goals as goal

pub returns : goal.returns
returns c l p = refused_first l p
