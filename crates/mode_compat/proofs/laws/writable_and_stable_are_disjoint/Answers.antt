use Rattle.mode_compat.proofs.Apart.{disjoint}
use Rattle.mode_compat.proofs.laws.writable_and_stable_are_disjoint.Goals as goal

pub returns : goal.returns
returns c = disjoint
