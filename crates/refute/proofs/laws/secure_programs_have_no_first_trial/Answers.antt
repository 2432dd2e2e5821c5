use Rattle.refute.proofs.TrialLaws.{secure_not_found}
use Rattle.refute.proofs.laws.secure_programs_have_no_first_trial.Goals as goal

pub returns : goal.returns
returns c = secure_not_found
