use Rattle.std.proofs.Common.{sym, subst}
use Rattle.std.proofs.lemmas.List.{length-map}
use Rattle.std.proofs.lemmas.Result.{IfOk-weaker}
use Rattle.cov_expr.specs.View.{term}
use Rattle.cov_expr.specs.Words.{HasVarsBelow}
use Rattle.cov_ast.specs.View as view
use Rattle.typing_rules.specs.Inside.Walking.{plain_of}
use Rattle.typing_rules.proofs.walk.Walk.holding.Goals as goal

pub returns : goal.returns
returns c =
    let w = c.args.self.now in
    let p = plain_of w in
    let vars = w.program.now.vars in
    let below = subst (HasVarsBelow (term c.args.e.now)) (sym (length-map vars view.var)) c.requires in
    IfOk-weaker c.with.result _ _ (λ made h a k. h p below w.thread a (c.in_ok-copied.ensures p w.thread a k)) c.with.ensures
