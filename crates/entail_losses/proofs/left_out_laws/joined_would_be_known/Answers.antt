use Rattle.entail_losses.proofs.JoinedLaws.{would_be_joined}
use Rattle.entail_losses.proofs.left_out_laws.joined_would_be_known.Goals as goal

pub returns : goal.returns
returns c p t steps hypotheses told o k = would_be_joined p t steps hypotheses told o k
