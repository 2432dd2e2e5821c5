use Rattle.std.proofs.Common.{◌≡◌, drop, map}
use Rattle.cov_ast.specs.View as view
use Rattle.typing_law.specs.Entailments.{cert_for}
use Rattle.typing_rules.proofs.certificates.cert_for.Given as goal

abbrev pub invariant-loop-proof : goal.invariant-loop-proof
invariant-loop-proof l = cert_for (map view.proof (drop l.proof-index l.proofs)) l.number ≡ cert_for (map view.proof l.proofs) l.number
