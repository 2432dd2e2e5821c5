use Rattle.source_machine.specs.SourceMachine.{run_of}
use Rattle.call_code.proofs.BigLaws.{runs_not_apart}
use Rattle.call_code.proofs.big.add_source_runs.Goals as goal

pub prove-unreachable-requires : goal.prove-unreachable-requires
prove-unreachable-requires c =
    runs_not_apart c.args.coded.now.program (run_of c.in_ok-left.left) (run_of c.in_ok-right.right) c.args.memories.now.left c.args.memories.now.right
    c.args.schedule.now c.pair-apart.result c.in_ok-left.ensures.run c.in_ok-right.ensures.run
    c.requires.coded.code.secure c.requires.left.fits c.requires.right.fits c.requires.fit c.requires.left.threads c.pair-apart.ensures.found c.if-prove.ensures
