use Rattle.policy_class.specs.Resolved.{resolved}
use Rattle.call_verdicts.specs.Swap.{replacements}
use Rattle.call_verdicts.proofs.SwapLaws.{no_fault, threads_replace}
use Rattle.call_verdicts.proofs.laws.swapped_programs_are_secure.Goals as goal

pub returns : goal.returns
returns c j sound exact bytes these name i short brief spells given ordered none =
    let p = resolved i.program in
    let fine = c.spelled_programs_are_formed.ensures bytes i.program short spells ordered in
    c.accepted_lines_are_secure.ensures j sound exact p fine (replacements i)
    (threads_replace p fine these brief i.replacing given (no_fault name p i.replacing none))
