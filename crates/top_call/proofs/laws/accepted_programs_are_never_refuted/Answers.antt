use Rattle.call_run.proofs.RefuteLaws.{refutes_never_differ}
use Rattle.top_call.proofs.laws.accepted_programs_are_never_refuted.Goals as goal

pub returns : goal.returns
returns c bytes p trials reply short spells accepted refutes differ =
    refutes_never_differ trials p (c.accepted_programs_are_secure.ensures bytes p short spells accepted) reply refutes differ
