use Rattle.entail_losses.proofs.UnknownLaws.{each_is_told}
use Rattle.entail_losses.proofs.left_out_laws.unknown_variables_are_told.Goals as goal

pub returns : goal.returns
returns c p t x steps hypotheses among none f is = each_is_told p t x steps hypotheses among none f is
