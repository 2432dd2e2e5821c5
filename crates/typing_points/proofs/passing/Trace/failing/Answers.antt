use Rattle.std.proofs.Common.{length, sym, subst}
use Rattle.std.proofs.lemmas.List.{length-map}
use Rattle.std.proofs.lemmas.Result.{IfOk-weaker}
use Rattle.cov_expr.specs.View.{term}
use Rattle.cov_expr.specs.Words.{HasVarsBelow}
use Rattle.cov_ast.specs.View as view
use Rattle.point_law.specs.After.{with_guard}
use Rattle.typing_state.specs.KeptPoints.{Keeps}
use Rattle.typing_points.specs.Traces.{plain_of}
use Rattle.typing_points.proofs.passing.Trace.failing.Goals as goal

pub returns : goal.returns
returns c =
    let w = c.args.self.now in
    let p = plain_of w in
    let is = c.in_ok-negation.ensures in
    let vars = w.program.now.vars in
    let below = subst (λ q. HasVarsBelow q (length p.vars)) (sym is) (subst (HasVarsBelow (term c.args.e.now)) (sym (length-map vars view.var)) c.requires) in
    IfOk-weaker c.with.result _ _ (λ made h a k. subst (λ q. Keeps p w.thread (with_guard p w.thread a q) made) is (h p below w.thread a k)) c.with.ensures
