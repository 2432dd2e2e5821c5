use Rattle.annotate.proofs.FormedLaws.{annotated_formed}
use Rattle.annotate.proofs.laws.annotated_programs_are_formed.Goals as goal

pub returns : goal.returns
returns c = annotated_formed
