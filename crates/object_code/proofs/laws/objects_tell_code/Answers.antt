use Rattle.object_code.proofs.Whole.{one_to_one}
use Rattle.object_code.proofs.laws.objects_tell_code.Goals as goal

pub returns : goal.returns
returns c = one_to_one
