use Rattle.annotate.proofs.ChoiceLaws.{unproved_are_not_found}
use Rattle.annotate.proofs.laws.unproved_entailments_are_not_found.Goals as goal

pub returns : goal.returns
returns c = unproved_are_not_found
