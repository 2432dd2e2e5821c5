use Rattle.refusal_names.proofs.FoundThreads.{told}
use Rattle.refusal_names.proofs.laws.missing_guarantee_is_told.Goals as goal

pub returns : goal.returns
returns c = told
