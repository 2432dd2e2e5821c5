use Rattle.typing_law.proofs.Soundness.FromDeclarations.{declared}
use Rattle.typing_law.proofs.laws.true_declarations_are_declared.Goals as goal

pub returns : goal.returns
returns c = declared
