use Rattle.entail_refused.proofs.WholeProgram.{refusal_told_of}
use Rattle.entail_refused.proofs.laws.refusal_is_told.Goals as goal

pub returns : goal.returns
returns c = refusal_told_of
