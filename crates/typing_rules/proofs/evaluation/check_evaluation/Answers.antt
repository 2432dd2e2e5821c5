use Rattle.std.proofs.Common.{[], ◌++◌}
use Rattle.cov_expr.specs.View.{term}
use Rattle.cov_ast.specs.Plain.{plain}
use Rattle.cov_ast.specs.View as view
use Rattle.cov_ast.proofs.ObligationLaws.{append_decided, append_refused}
use Rattle.typing_law.specs.ThreadObligations.{narrow, one_unstable}
use Rattle.typing_law.proofs.VerdictLaws.{padded}
use Rattle.typing_rules.proofs.evaluation.check_evaluation.Goals as goal

pub returns-in-Ok : goal.returns-in-Ok
returns-in-Ok c held modes =
    let p = plain (view.program c.args.p.now) in
    let site = c.args.site in
    let thin = narrow p site.thread site.place (term c.args.e.now) in
    append_decided (one_unstable p site.thread site.place held (term c.args.e.now)) (thin ++ []) c.check_narrow.result (c.in-Ok.ensures held modes)
    (padded thin c.check_narrow.result c.check_narrow.ensures)

pub returns-in-Err : goal.returns-in-Err
returns-in-Err c held modes =
    let p = plain (view.program c.args.p.now) in
    let site = c.args.site in
    append_refused (one_unstable p site.thread site.place held (term c.args.e.now)) (narrow p site.thread site.place (term c.args.e.now) ++ [])
    c.in-Err.fault (c.in-Err.ensures held modes)
