use Rattle.entail_cert.proofs.Axioms as proved
use Rattle.entail_cert.proofs.laws.axioms_hold.Goals as goal

pub returns : goal.returns
returns c = proved.axioms_hold
