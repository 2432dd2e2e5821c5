use Rattle.annotate.proofs.ChoiceLaws.{all_annotated}
use Rattle.annotate.proofs.laws.listed_entailments_are_annotated.Goals as goal

pub returns : goal.returns
returns c = all_annotated
