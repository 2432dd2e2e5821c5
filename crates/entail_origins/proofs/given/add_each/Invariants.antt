use Rattle.std.proofs.Common.{◌≡◌, ◌++◌, drop, map}
use Rattle.cov_expr.specs.View.{term}
use Rattle.cov_ast.specs.View as view
use Rattle.entail_origins.specs.GivenViews.{given}
use Rattle.entail_origins.specs.Origins as spec
use Rattle.entail_origins.proofs.given.add_each.Given as goal

-- those so far, and the rest, are all
abbrev pub invariant-loop-pred : goal.invariant-loop-pred
invariant-loop-pred l =
    map given l.all ++ spec.each l.source (map term (drop l.pred-index l.pred-items)) ≡ map given l.fn.all ++ spec.each l.source (view.state l.state).preds
