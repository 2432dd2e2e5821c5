use Rattle.cov_ast.specs.View as view
use Rattle.policy_class.specs.Inside.Ids.{var_in, lock_in}
use Rattle.policy_class.specs.Resolved.{resolved_type}
use Rattle.cov_expr.specs.Words.{HasWords}
use Rattle.policy_class.proofs.WalkLaws.{Walked}
use Rattle.policy_class.proofs.exprs.resolve_retypes.Given as goal

abbrev pub invariant-loop-retype : goal.invariant-loop-retype
invariant-loop-retype l = Walked view.retype (resolved_type (var_in l.ids) (lock_in l.ids)) (λ t. HasWords t.1) l.initial.retypes l.retypes l.retype-index
