use Rattle.refusal_names.proofs.NumberLaws.{told}
use Rattle.refusal_names.proofs.laws.wrong_number_is_told.Goals as goal

pub returns : goal.returns
returns c = told
