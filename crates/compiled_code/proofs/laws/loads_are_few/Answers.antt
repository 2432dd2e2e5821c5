use Rattle.compiled_code.proofs.Assembled.{few}
use Rattle.compiled_code.proofs.Tidied.{declarations_true}
use Rattle.compiled_code.proofs.laws.loads_are_few.Goals as goal

pub returns : goal.returns
returns c p accepted = few p (c.true_declarations_are_declared.ensures p (declarations_true p accepted))
