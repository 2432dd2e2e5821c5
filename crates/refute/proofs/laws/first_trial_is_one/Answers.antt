use Rattle.refute.proofs.FirstLaws.{first_trial_one}
use Rattle.refute.proofs.laws.first_trial_is_one.Goals as goal

pub returns : goal.returns
returns c = first_trial_one
