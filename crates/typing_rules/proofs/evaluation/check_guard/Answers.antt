use Rattle.std.proofs.Common.{◌++◌, ◌∙◌, Err}
use Rattle.cov_expr.specs.View.{term}
use Rattle.cov_ast.specs.Plain.{plain}
use Rattle.cov_ast.specs.View as view
use Rattle.cov_ast.proofs.ObligationLaws.{append_decided, append_refused, append_held}
use Rattle.typing_law.specs.ThreadObligations.{reads, one_unstable, narrow}
use Rattle.typing_rules.proofs.evaluation.check_guard.Goals as goal

pub returns-in-Err : goal.returns-in-Err
returns-in-Err c held modes =
    let p = plain (view.program c.args.p.now) in
    let site = c.args.site in
    let e = term c.args.e.now in
    let v1 = reads p site.thread site.place held e in
    let v3 = one_unstable p site.thread site.place held e in
    append_refused (v1 ++ v3) (narrow p site.thread site.place e) c.in-Err.fault (append_refused v1 v3 c.in-Err.fault (c.in-Err.ensures held modes))

pub returns-in-Err-check_one_unstable : goal.returns-in-Err-check_one_unstable
returns-in-Err-check_one_unstable c held modes =
    let p = plain (view.program c.args.p.now) in
    let site = c.args.site in
    let e = term c.args.e.now in
    let v1 = reads p site.thread site.place held e in
    let v3 = one_unstable p site.thread site.place held e in
    let fault = c.in-Err-check_one_unstable.fault in
    append_refused (v1 ++ v3) (narrow p site.thread site.place e) fault
    (append_decided v1 v3 (Err fault) (c.in_default.ensures held modes) (c.in-Err-check_one_unstable.ensures held modes))

pub returns : goal.returns
returns c held modes =
    let p = plain (view.program c.args.p.now) in
    let site = c.args.site in
    let e = term c.args.e.now in
    let v1 = reads p site.thread site.place held e in
    let v3 = one_unstable p site.thread site.place held e in
    append_decided (v1 ++ v3) (narrow p site.thread site.place e) c.check_narrow.result
    (append_held v1 v3 (c.in_default.ensures held modes) ∙ c.in_default-check_one_unstable.ensures held modes) c.check_narrow.ensures
