use Rattle.std.proofs.Common.{length, map, sym, subst}
use Rattle.std.proofs.lemmas.List.{length-map}
use Rattle.std.proofs.lemmas.Result.{IfOk-weaker}
use Rattle.cov_expr.specs.View.{term}
use Rattle.cov_expr.specs.Words.{HasVarsBelow}
use Rattle.cov_ast.specs.View as view
use Rattle.point_law.specs.After.{with_guard}
use Rattle.typing_state.specs.KeptPoints.{Keeps}
use Rattle.typing_rules.specs.Inside.Walking.{plain_of}
use Rattle.typing_rules.proofs.walk.Walk.failing.Goals as goal

pub returns : goal.returns
returns c =
    let w = c.args.self.now in
    let p = plain_of w in
    let vars = w.program.now.vars in
    let e = term c.args.e.now in
    let is = c.in_ok-negation.ensures in
    let below = subst (HasVarsBelow e) (sym (length-map vars view.var)) c.requires in
    IfOk-weaker c.with.result _ _ (λ made h a k.
    subst (λ q. Keeps p w.thread (with_guard p w.thread a q) made) is (h p (subst (λ q. HasVarsBelow q (length (map view.var vars))) (sym is) below) w.thread a k)) c.with.ensures
