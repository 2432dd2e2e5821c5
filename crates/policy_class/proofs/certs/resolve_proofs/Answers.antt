use Rattle.std.proofs.Common.{arith, get_or}
use Rattle.cov_ast.specs.View as view
use Rattle.cov_ast.specs.WellFormed.{CertHasWords}
use Rattle.policy_class.specs.Inside.Ids.{var_in, lock_in}
use Rattle.policy_class.specs.Resolved.{resolved_proof}
use Rattle.policy_class.proofs.WalkLaws.{walked_none, walked_more, walked_all}
use Rattle.policy_class.proofs.certs.resolve_proofs.Goals as goal

pub loop-proof-init : goal.loop-proof-init
loop-proof-init c = walked_none view.proof (resolved_proof (var_in c.args.ids.now) (lock_in c.args.ids.now)) (λ p. CertHasWords p.cert) c.args.proofs.now

pub loop-proof-preserved : goal.loop-proof-preserved
loop-proof-preserved c =
    walked_more view.proof (resolved_proof (var_in c.args.ids.now) (lock_in c.args.ids.now)) (λ p. CertHasWords p.cert) c.args.proofs.now c.loop-proof.proofs c.loop-proof.proof-index
    c.proof-item.result _ (omega (arith, c.loop-proof.auto.proofs, c.loop-proof-test.true)) (λ i. record { number = (get_or c.loop-proof.proofs c.loop-proof.proof-index c.proof-item.result).number; cert = c.resolve_cert.ensures.resolved i }) c.resolve_cert.ensures.words c.loop-proof.invariant

pub returns-clause-resolved : goal.returns-clause-resolved
returns-clause-resolved c =
    (walked_all view.proof (resolved_proof (var_in c.args.ids.now) (lock_in c.args.ids.now)) (λ p. CertHasWords p.cert) c.args.proofs.now c.loop-proof.proofs c.loop-proof.proof-index
    (omega (arith, c.loop-proof.auto.proofs, c.loop-proof-test.false)) c.loop-proof.invariant).0

pub returns-clause-words : goal.returns-clause-words
returns-clause-words c =
    (walked_all view.proof (resolved_proof (var_in c.args.ids.now) (lock_in c.args.ids.now)) (λ p. CertHasWords p.cert) c.args.proofs.now c.loop-proof.proofs c.loop-proof.proof-index
    (omega (arith, c.loop-proof.auto.proofs, c.loop-proof-test.false)) c.loop-proof.invariant).1
