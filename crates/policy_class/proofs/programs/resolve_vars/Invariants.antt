use Rattle.cov_ast.specs.View as view
use Rattle.policy_class.specs.Inside.Ids.{var_in, lock_in}
use Rattle.policy_class.specs.Resolved.{resolved_variable}
use Rattle.cov_expr.specs.Words.{HasWords}
use Rattle.cov_ast.specs.Plain.{class_term}
use Rattle.policy_class.proofs.WalkLaws.{Walked}
use Rattle.policy_class.proofs.programs.resolve_vars.Given as goal

abbrev pub invariant-loop-var : goal.invariant-loop-var
invariant-loop-var l = Walked view.var (resolved_variable (var_in l.ids) (lock_in l.ids)) (λ v. HasWords (class_term v.class)) l.initial.vars l.vars l.var-index
