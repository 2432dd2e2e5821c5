use Rattle.object_code.proofs.Answered.{two_faults}
use Rattle.object_code.proofs.laws.objects_have_two_faults.Goals as goal

pub returns : goal.returns
returns c = two_faults
