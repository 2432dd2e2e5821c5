use Rattle.std.proofs.Common.{◌≡◌, drop, map}
use Rattle.std.specs.List.{flat_map}
use Rattle.cov_ast.specs.View as view
use Rattle.cov_ast.specs.Obligations.{first_false}
use Rattle.policy_class.specs.Policy.{control_obligations}
use Rattle.policy_class.proofs.policy.check_classes.Given as goal

abbrev pub invariant-loop-var : goal.invariant-loop-var
invariant-loop-var l =
    first_false (flat_map (control_obligations (view.program l.p)) (map view.var (drop l.var-index l.p.vars)))
    ≡ first_false (flat_map (control_obligations (view.program l.p)) (map view.var l.p.vars))
