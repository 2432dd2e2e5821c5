use Rattle.entail_search.proofs.Ranges.{within_in_range}
use Rattle.entail_search.proofs.Sound.{deeper_sound}
use Rattle.entail_search.proofs.laws.deeper_certificates_are_in_range.Goals as goal

pub returns : goal.returns
returns c vars locks hyps asked found hs ws g w e = within_in_range vars locks hyps asked found hs ws g w (deeper_sound hyps asked found e).within
