use Rattle.deeper_text.specs.DeeperText.{tried}
use Rattle.deeper_text.proofs.FoundRange.{chosen_valid}
use Rattle.deeper_text.proofs.laws.deeper_choices_are_valid.Goals as goal

pub returns : goal.returns
returns c = λ p t place. chosen_valid p (tried p) t place
