use Rattle.mode_compat.proofs.Apart.{sets_of}
use Rattle.mode_compat.proofs.laws.sets_are_holdings.Goals as goal

pub returns : goal.returns
returns c = sets_of
