use Rattle.entail_losses.proofs.KnownLaws.{would_be_known}
use Rattle.entail_losses.proofs.left_out_laws.left_out_would_be_known.Goals as goal

pub returns : goal.returns
returns c p t steps hypotheses o k = would_be_known p t steps hypotheses o k
