use Rattle.cov_ast.specs.View as view
use Rattle.policy_class.specs.Inside.Ids.{var_in, lock_in}
use Rattle.policy_class.specs.Resolved.{resolved_proof}
use Rattle.cov_ast.specs.WellFormed.{CertHasWords}
use Rattle.policy_class.proofs.WalkLaws.{Walked}
use Rattle.policy_class.proofs.certs.resolve_proofs.Given as goal

abbrev pub invariant-loop-proof : goal.invariant-loop-proof
invariant-loop-proof l = Walked view.proof (resolved_proof (var_in l.ids) (lock_in l.ids)) (λ p. CertHasWords p.cert) l.initial.proofs l.proofs l.proof-index
