use Rattle.policy_class.specs.Resolved.{resolved}
use Rattle.call_verdicts.proofs.LevelsLaws.{none_rejected}
use Rattle.call_verdicts.proofs.laws.shown_programs_are_secure.Goals as goal

pub returns : goal.returns
returns c bytes these i short brief spells given ordered none =
    let p = resolved i.program in
    c.accepted_are_secure.ensures i.levels p (c.given_levels_fit.ensures bytes these i short brief spells given)
    (c.spelled_programs_are_formed.ensures bytes i.program short spells ordered) ((c.first_refused_is_first.ensures i.levels p).none.0 (none_rejected i none))
