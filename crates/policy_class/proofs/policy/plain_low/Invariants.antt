use Rattle.std.proofs.Common.{◌≡◌, ◌++◌, drop, map}
use Rattle.cov_ast.specs.Declarations.{is_low}
use Rattle.cov_ast.specs.View as view
use Rattle.policy_class.proofs.policy.plain_low.Given as goal

abbrev pub invariant-loop-var : goal.invariant-loop-var
invariant-loop-var l =
    l.marks ++ map (λ v. is_low (view.class v.class)) (drop l.var-index l.p.vars) ≡ map (λ v. is_low (view.class v.class)) l.p.vars
