use Rattle.std.proofs.Common.{◌≡◌, map, drop}
use Rattle.cov_ast.specs.View as view
use Rattle.cov_ast.specs.Obligations.{first_false}
use Rattle.policy_class.specs.Resolved.{use_obligation}
use Rattle.policy_class.proofs.uses.check_uses.Given as goal

abbrev pub invariant-loop-used : goal.invariant-loop-used
invariant-loop-used l =
    first_false (map (use_obligation (view.parsed l.p)) (drop l.used-index l.p.uses)) ≡ first_false (map (use_obligation (view.parsed l.p)) l.p.uses)
