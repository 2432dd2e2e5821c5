use Rattle.annotate.proofs.ReadTexts.{read_as_read}
use Rattle.annotate.proofs.laws.texts_are_as_read.Goals as goal

pub returns : goal.returns
returns c = read_as_read
