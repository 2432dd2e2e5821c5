use Rattle.std.proofs.Common.{subst, sym}
use Rattle.std.proofs.lemmas.List.{length-map}
use Rattle.cov_expr.specs.View.{term}
use Rattle.cov_expr.specs.Words.{HasVarsBelow}
use Rattle.cov_ast.specs.View as view
use Rattle.typing_rules.specs.Inside.Walking.{plain_of}
use Rattle.typing_rules.proofs.walk.Walk.check_value.Goals as goal

pub returns : goal.returns
returns c a k =
    let w = c.args.self.now in
    let q = term c.args.q.now in
    c.check_before.ensures q a k
    (c.is_over_controls-over.ensures (plain_of w) (subst (HasVarsBelow q) (sym (length-map w.program.now.vars view.var)) c.requires.typed) w.thread a k)
