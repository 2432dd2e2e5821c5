use Rattle.cov_ast.specs.View as view
use Rattle.policy_class.specs.Inside.Ids.{var_in, lock_in}
use Rattle.policy_class.specs.Resolved.{resolved_thread}
use Rattle.cov_ast.specs.WellFormed.{BlockHasWords}
use Rattle.policy_class.proofs.WalkLaws.{Walked}
use Rattle.policy_class.proofs.programs.resolve_threads.Given as goal

abbrev pub invariant-loop-thread : goal.invariant-loop-thread
invariant-loop-thread l = Walked view.thread (resolved_thread (var_in l.ids) (lock_in l.ids)) (λ t. BlockHasWords t.body) l.initial.threads l.threads l.thread-index
