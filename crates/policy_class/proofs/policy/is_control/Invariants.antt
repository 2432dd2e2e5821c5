use Rattle.std.proofs.Common.{◌≡◌, drop, map}
use Rattle.std.specs.List.{list_any}
use Rattle.cov_expr.specs.Trees.{mentions}
use Rattle.cov_ast.specs.Plain.{class_term}
use Rattle.cov_ast.specs.View as view
use Rattle.policy_class.proofs.policy.is_control.Given as goal

-- no class so far mentions the variable
abbrev pub invariant-loop-var : goal.invariant-loop-var
invariant-loop-var l =
    list_any (λ v. mentions (class_term v.class) l.x) (map view.var (drop l.var-index l.p.vars)) ≡ list_any (λ v. mentions (class_term v.class) l.x) (map view.var l.p.vars)
