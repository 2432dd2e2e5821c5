use Rattle.call_verdicts.proofs.LevelsLaws.{given_fit}
use Rattle.call_verdicts.proofs.laws.given_levels_fit.Goals as goal

pub returns : goal.returns
returns c bytes these i short brief spells given = given_fit bytes these short brief i spells given
