use Rattle.cov_expr.specs.View.{term}
use Rattle.policy_class.specs.Inside.Ids.{var_in, lock_in}
use Rattle.policy_class.specs.Resolved.{resolved_term}
use Rattle.cov_expr.specs.Words.{HasWords}
use Rattle.policy_class.proofs.WalkLaws.{Walked}
use Rattle.policy_class.proofs.exprs.resolve_exprs.Given as goal

abbrev pub invariant-loop-e : goal.invariant-loop-e
invariant-loop-e l = Walked term (resolved_term (var_in l.ids) (lock_in l.ids)) HasWords l.initial.es l.es l.e-index
