use Rattle.std.proofs.lemmas.Result.{IfOk-weaker}
use Rattle.cov_ast.specs.View as view
use Rattle.call_judge.proofs.JudgeLaws.{found_of}
use Rattle.call_judge.proofs.judge.judge_bytes.Goals as goal

pub returns-in-Ok : goal.returns-in-Ok
returns-in-Ok c =
    let p = view.parsed c.in-Ok.parsed in
    IfOk-weaker c.judge_text.result _ _ (λ judged found. found_of c.args.bytes.now p judged c.in-Ok.ensures.read found) c.judge_text.ensures
