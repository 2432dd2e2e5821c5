use Rattle.entail_text.proofs.FoundLaws.{has_none, is_suggested, is_valid_one}
use Rattle.entail_text.proofs.laws.suggested_certificates_are_valid.Goals as goal

pub returns-clause-valid : goal.returns-clause-valid
returns-clause-valid c = is_valid_one

pub returns-clause-found : goal.returns-clause-found
returns-clause-found c = is_suggested

pub returns-clause-none : goal.returns-clause-none
returns-clause-none c = has_none
