use Rattle.cov_ast.specs.View as view
use Rattle.policy_class.specs.Inside.Ids.{var_in, lock_in}
use Rattle.policy_class.specs.Resolved.{resolved_type}
use Rattle.cov_expr.specs.Words.{HasWords}
use Rattle.policy_class.proofs.WalkLaws.{Walked}
use Rattle.policy_class.proofs.exprs.resolve_types.Given as goal

abbrev pub invariant-loop-typed : goal.invariant-loop-typed
invariant-loop-typed l = Walked view.typed (resolved_type (var_in l.ids) (lock_in l.ids)) (λ t. HasWords t.1) l.initial.types l.types l.typed-index
