use Rattle.std.proofs.Common.{◌≡◌, drop, map}
use Rattle.cov_ast.specs.View as view
use Rattle.entail_text.specs.Given.{cert_for}
use Rattle.entail_text.proofs.given.cert_for.Given as goal

-- none of the proofs so far is the one
abbrev pub invariant-loop-proof : goal.invariant-loop-proof
invariant-loop-proof l = cert_for (map view.proof (drop l.proof-index l.proofs)) l.number ≡ cert_for (map view.proof l.proofs) l.number
