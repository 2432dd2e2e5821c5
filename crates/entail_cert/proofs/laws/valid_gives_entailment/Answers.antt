use Rattle.entail_cert.proofs.Instances.{valid_entails}
use Rattle.entail_cert.proofs.laws.valid_gives_entailment.Goals as goal

pub returns : goal.returns
returns c = valid_entails
