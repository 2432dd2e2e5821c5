use Rattle.std.proofs.Common.{◌≡◌, None, drop, map}
use Rattle.cov_expr.specs.View.{term}
use Rattle.cov_ast.specs.Plain.{plain}
use Rattle.cov_ast.specs.View as view
use Rattle.statement_paths.specs.Paths as paths
use Rattle.entail_origins.specs.Origins as spec
use Rattle.entail_origins.proofs.hypothesis_origin.origin_of.Given as goal

-- none of the steps so far, which are the last ones, gives the hypothesis
abbrev pub invariant-loop-i : goal.invariant-loop-i
invariant-loop-i l = spec.origin (plain (view.program l.p)) (map paths.step (drop l.i l.steps)) (term l.hypothesis) ≡ None
