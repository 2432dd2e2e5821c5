use Rattle.call_code.proofs.CodeLaws.{codes_not_apart}
use Rattle.call_code.proofs.pair_code.run_both.Goals as goal

pub prove-unreachable-requires : goal.prove-unreachable-requires
prove-unreachable-requires c =
    let code = c.requires.coded.code in
    codes_not_apart c.args.coded.now.program c.args.coded.now.code c.in_ok-first.first.parts c.in_ok-first.first.state c.in_ok-second.second.state
    c.args.left c.args.right c.args.schedule.now c.pair_code-apart.result c.in_ok-first.ensures.parts c.in_ok-first.ensures.state c.in_ok-second.ensures.state
    code.declared code.good.secure c.requires.left.fits c.requires.right.fits c.requires.fit c.requires.left.threads c.pair_code-apart.ensures.found c.if-prove.ensures
