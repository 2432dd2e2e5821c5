use Rattle.call_run.proofs.PairLaws.{pairs_never_differ}
use Rattle.top_call.proofs.OutcomeLaws.{schedule_fits, start_fits}
use Rattle.top_call.proofs.laws.accepted_runs_never_differ.Goals as goal

pub returns : goal.returns
returns c bytes left right schedule i reply short spells accepted is_left is_right is_schedule fit pairs differ =
    pairs_never_differ i.program i.left i.right i.schedule (c.accepted_programs_are_secure.ensures bytes i.program short spells accepted)
    (start_fits i.program left i.left is_left) (start_fits i.program right i.right is_right) (schedule_fits i.program schedule i.schedule is_schedule) fit
    reply pairs differ
