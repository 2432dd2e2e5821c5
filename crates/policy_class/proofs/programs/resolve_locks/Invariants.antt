use Rattle.cov_ast.specs.View as view
use Rattle.policy_class.specs.Inside.Ids.{var_in, lock_in}
use Rattle.policy_class.specs.Resolved.{resolved_lock}
use Rattle.cov_expr.specs.Words.{HasWords}
use Rattle.cov_ast.specs.Declarations.{invariant_term}
use Rattle.policy_class.proofs.WalkLaws.{Walked}
use Rattle.policy_class.proofs.programs.resolve_locks.Given as goal

abbrev pub invariant-loop-lock : goal.invariant-loop-lock
invariant-loop-lock l = Walked view.lock (resolved_lock (var_in l.ids) (lock_in l.ids)) (λ k. HasWords (invariant_term k.inv)) l.initial.locks l.locks l.lock-index
