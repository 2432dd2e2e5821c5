use Rattle.std.proofs.Common.{[], map, sym}
use Rattle.cov_expr.specs.View.{term}
use Rattle.cov_ast.specs.View as view
use Rattle.typing_law.specs.ThreadObligations.{guard_obligations}
use Rattle.typing_rules.specs.Inside.Walking.{plain_of}
use Rattle.typing_rules.proofs.Others.{others_guard}
use Rattle.typing_rules.proofs.walk.Walk.fork.Goals as goal

pub returns : goal.returns
returns c a k =
    let w = c.args.self.now in
    let p = plain_of w in
    let evaluated = (rw c.site.ensures at c.check_guard-evaluated.ensures) a.held (c.modes.ensures p w.thread a k) in
    c.guard.ensures a k (guard_obligations p w.thread c.args.at a.held (term c.args.e.now)) [] c.args.kept.now (others_guard p w.thread c.args.at a.held (term c.args.e.now)) evaluated
    (sym c.len-mark.ensures) (c.none.ensures.tried w.purpose c.args.at (map view.proof c.args.proofs.now) 1 c.args.kept.now)
