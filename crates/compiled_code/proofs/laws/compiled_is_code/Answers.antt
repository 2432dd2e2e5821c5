use Rattle.compiled_code.proofs.CodeOf.{code_good}
use Rattle.compiled_code.proofs.laws.compiled_is_code.Goals as goal

pub returns : goal.returns
returns c p formed = code_good p formed
