use Rattle.std.proofs.Common.{◌<◌, ◌∷◌, [], ◌&&◌, Ok, Err, ap, arith, length, not}
use Rattle.std.proofs.lemmas.List.{length-map}
use Rattle.cov_expr.specs.View.{term}
use Rattle.cov_ast.specs.Declarations.{name_of}
use Rattle.cov_ast.specs.Plain.{plain}
use Rattle.cov_ast.specs.View as view
use Rattle.cov_ast.specs.declared.refusal.Detail.TheVariants.{One}
use Rattle.cov_ast.specs.declared.refusal.Rule.TheVariants.{V14}
use Rattle.cov_ast.proofs.ObligationLaws.{append_decided, append_refused}
use Rattle.point_law.specs.Point.{is_tracked}
use Rattle.typing_law.specs.ThreadObligations.{obligation, over_controls}
use Rattle.typing_rules.proofs.GuardLaws.{same_test}
use Rattle.typing_rules.proofs.types.check_type.Goals as goal

pub returns-in-Ok : goal.returns-in-Ok
returns-in-Ok c a kept =
    let p = plain (view.program c.args.p.now) in
    let site = c.args.site in
    let z = c.args.z in
    let inside : z < length p.vars = omega (arith, length-map c.args.p.now.vars view.var, c.requires.variable) in
    let fit = (c.args.may_list && is_tracked p site.thread a.held z) && not c.args.named in
    append_decided (obligation p site.thread site.place V14 (One (name_of p z)) fit ∷ []) (over_controls p site.thread site.place a.held (term c.args.q.now) ∷ [])
    c.check_over_controls.result
    (same_test site.thread site.place V14 _ _ c.is_fit-fit.result fit (Ok tt) (ap One c.var_name.ensures) (c.is_fit-fit.ensures p site.thread a kept inside) c.in-Ok.ensures)
    (c.check_over_controls.ensures a kept)

pub returns-in-Err : goal.returns-in-Err
returns-in-Err c a kept =
    let p = plain (view.program c.args.p.now) in
    let site = c.args.site in
    let z = c.args.z in
    let inside : z < length p.vars = omega (arith, length-map c.args.p.now.vars view.var, c.requires.variable) in
    let fit = (c.args.may_list && is_tracked p site.thread a.held z) && not c.args.named in
    append_refused (obligation p site.thread site.place V14 (One (name_of p z)) fit ∷ []) (over_controls p site.thread site.place a.held (term c.args.q.now) ∷ [])
    c.in-Err.fault
    (same_test site.thread site.place V14 _ _ c.is_fit-fit.result fit (Err c.in-Err.fault) (ap One c.var_name.ensures) (c.is_fit-fit.ensures p site.thread a kept inside) c.in-Err.ensures)
