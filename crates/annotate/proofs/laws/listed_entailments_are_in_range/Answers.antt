use Rattle.annotate.proofs.FormedLaws.{listed_in_range}
use Rattle.annotate.proofs.laws.listed_entailments_are_in_range.Goals as goal

pub returns : goal.returns
returns c = listed_in_range
