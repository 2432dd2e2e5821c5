use Rattle.std.proofs.Common.{[], Err, map, subst}
use Rattle.cov_expr.specs.View.{term}
use Rattle.cov_ast.specs.Obligations.{Decides}
use Rattle.cov_ast.specs.Plain.{plain}
use Rattle.cov_ast.specs.View as view
use Rattle.cov_ast.proofs.ObligationLaws.{append_decided, append_refused}
use Rattle.point_law.specs.Point.{is_tracked}
use Rattle.typing_law.specs.ThreadObligations.{over_stable, type_obligations}
use Rattle.typing_rules.proofs.types.check_state.Goals as goal

pub returns-in-Err : goal.returns-in-Err
returns-in-Err c a kept =
    let p = plain (view.program c.args.p.now) in
    let site = c.args.site in
    let v12 = over_stable p site.thread site.place a.held in
    let types = map view.typed c.args.s.now.types in
    append_refused (map v12 (map term c.args.s.now.preds)) (type_obligations p site.thread site.place (is_tracked p site.thread a.held) a.held [] types) c.in-Err.fault
    (subst (λ es. Decides (map v12 (map term es)) (Err c.in-Err.fault)) c.as_slice.ensures (c.in-Err.ensures a kept))

pub returns : goal.returns
returns c a kept =
    let p = plain (view.program c.args.p.now) in
    let site = c.args.site in
    let v12 = over_stable p site.thread site.place a.held in
    let v14 = type_obligations p site.thread site.place (is_tracked p site.thread a.held) a.held [] in
    append_decided (map v12 (map term c.args.s.now.preds)) (v14 (map view.typed c.args.s.now.types)) c.check_types.result
    (rw c.as_slice.ensures at (c.in_default.ensures a kept)) (rw c.as_slice-2.ensures at (c.check_types.ensures a kept))
