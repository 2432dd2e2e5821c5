use Rattle.object_code.proofs.Whole.{begins_no_other}
use Rattle.object_code.proofs.laws.no_object_begins_another.Goals as goal

pub returns : goal.returns
returns c = begins_no_other
