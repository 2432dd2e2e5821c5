use Rattle.annotate.proofs.PutLaws.{certs_given, new_stand_behind, numbers_stay, others_stay}
use Rattle.annotate.proofs.laws.chosen_certificates_stand.Goals as goal

pub returns-clause-certificates : goal.returns-clause-certificates
returns-clause-certificates c = certs_given

pub returns-clause-numbers : goal.returns-clause-numbers
returns-clause-numbers c = numbers_stay

pub returns-clause-others : goal.returns-clause-others
returns-clause-others c = others_stay

pub returns-clause-behind : goal.returns-clause-behind
returns-clause-behind c = new_stand_behind
