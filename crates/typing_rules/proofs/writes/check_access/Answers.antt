use Rattle.std.proofs.Common.{[], ◌∷◌, ◌++◌}
use Rattle.cov_expr.specs.View.{term}
use Rattle.cov_ast.specs.Plain.{plain}
use Rattle.cov_ast.specs.View as view
use Rattle.cov_ast.specs.declared.refusal.Rule.TheVariants.{V2}
use Rattle.cov_ast.proofs.ObligationLaws.{append_decided, append_refused}
use Rattle.mode_state.specs.Sets.{may_write}
use Rattle.typing_law.specs.ThreadObligations.{of_var, reads}
use Rattle.typing_law.proofs.VerdictLaws.{padded}
use Rattle.typing_rules.proofs.writes.check_access.Goals as goal

pub returns-in-Ok : goal.returns-in-Ok
returns-in-Ok c held modes =
    let p = plain (view.program c.args.p.now) in
    let site = c.args.site in
    let write = of_var p site.thread site.place V2 (may_write p site.thread held) c.args.x ∷ [] in
    append_decided (reads p site.thread site.place held (term c.args.e.now)) (write ++ []) c.check_write.result (c.in-Ok.ensures held modes)
    (padded write c.check_write.result (c.check_write.ensures held modes))

pub returns-in-Err : goal.returns-in-Err
returns-in-Err c held modes =
    let p = plain (view.program c.args.p.now) in
    let site = c.args.site in
    append_refused (reads p site.thread site.place held (term c.args.e.now)) ((of_var p site.thread site.place V2 (may_write p site.thread held) c.args.x ∷ []) ++ [])
    c.in-Err.fault (c.in-Err.ensures held modes)
