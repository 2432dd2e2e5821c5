use Rattle.call_judge.proofs.FormedLaws.{text_formed}
use Rattle.call_judge.proofs.laws.spelled_programs_are_formed.Goals as goal

pub returns : goal.returns
returns c bytes p short spells ordered = text_formed bytes short p spells ordered
