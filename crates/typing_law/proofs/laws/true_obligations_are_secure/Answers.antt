use Rattle.typing_law.proofs.Soundness.Whole.{true_is_secure}
use Rattle.typing_law.proofs.laws.true_obligations_are_secure.Goals as goal

pub returns : goal.returns
returns c = true_is_secure
