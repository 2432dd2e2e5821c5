use Rattle.call_run.proofs.RunLaws.{is_run_of}
use Rattle.call_run.proofs.run.run_on.Goals as goal

pub ran-requires-clause-run : goal.ran-requires-clause-run
ran-requires-clause-run c =
    let i = c.args.input in
    is_run_of i.parsed c.in_ok-program.program c.in_ok-program.ensures.is i.memory c.as_slice.result.now i.entries c.as_slice.ensures
    c.requires.memory c.requires.threads c.requires.few
