use Rattle.entail_losses.proofs.KeptLaws.{would_be_kept}
use Rattle.entail_losses.proofs.left_out_laws.forgotten_would_be_kept.Goals as goal

pub returns : goal.returns
returns c p t steps hypotheses told f k = would_be_kept p t steps hypotheses told f k
