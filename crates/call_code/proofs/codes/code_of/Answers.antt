use Rattle.call_code.proofs.CodeLaws.{made_code}
use Rattle.call_code.proofs.codes.code_of.Goals as goal

pub returns : goal.returns
returns c =
    let checked = c.in_ok-verdict.ensures.verdict in
    let made = c.in_ok-code.ensures in
    made_code c.args.program.now c.in_ok-verdict.verdict.program.now c.in_ok-code.code c.totals_of.result checked.0 checked.1 c.in_ok-verdict.ensures.secure
    made.code made.good c.totals_of.ensures
