use Rattle.refusal_names.proofs.UnstableLaws.{told}
use Rattle.refusal_names.proofs.laws.unstable_variable_is_told.Goals as goal

pub returns : goal.returns
returns c = told
