use Rattle.std.proofs.Common.{◌≡◌, map}
use Rattle.cov_ast.specs.View as view
use Rattle.annotate.specs.Inside.Choosing.{lent_choice, view_choice}
use Rattle.annotate.specs.WithCertificates.{with_certs}
use Rattle.annotate.proofs.PuttingLaws.{proofs_mixed}
use Rattle.annotate.proofs.put_in.replace_each.Given as goal

abbrev pub invariant-loop-proof : goal.invariant-loop-proof
invariant-loop-proof l = proofs_mixed (map lent_choice l.left) l.proof-index (map view.proof l.proofs) ≡ with_certs (map view_choice l.chosen) (map view.proof l.initial.proofs)
