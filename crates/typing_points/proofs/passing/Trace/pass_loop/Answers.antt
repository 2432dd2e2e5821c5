use Rattle.std.proofs.lemmas.Result.{IfOk-weaker}
use Rattle.cov_ast.specs.View as view
use Rattle.point_law.specs.After.{meet}
use Rattle.typing_points.specs.Traces.{plain_of}
use Rattle.typing_points.proofs.passing.Trace.pass_loop.Goals as goal

pub returns : goal.returns
returns c =
    let w = c.args.self.now in
    IfOk-weaker c.failing.result _ _
    (λ made h a k. h (meet (plain_of w) w.thread a (view.state c.args.inv.now)) (c.in_ok-top.ensures w.thread a k)) c.failing.ensures
