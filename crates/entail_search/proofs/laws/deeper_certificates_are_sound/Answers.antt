use Rattle.entail_search.proofs.Sound.{deeper_sound}
use Rattle.entail_search.proofs.laws.deeper_certificates_are_sound.Goals as goal

pub returns : goal.returns
returns c = deeper_sound
