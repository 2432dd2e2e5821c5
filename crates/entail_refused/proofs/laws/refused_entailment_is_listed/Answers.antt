use Rattle.entail_refused.proofs.RefusedListed.{refused_listed}
use Rattle.entail_refused.proofs.laws.refused_entailment_is_listed.Goals as goal

pub returns : goal.returns
returns c = refused_listed
