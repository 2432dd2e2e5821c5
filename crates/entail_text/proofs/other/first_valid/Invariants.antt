use Rattle.std.proofs.Common.{◌≡◌, drop, map}
use Rattle.cov_expr.specs.View.{term}
use Rattle.cov_ast.specs.View as view
use Rattle.entail_text.specs.OtherCertificates.{first_valid}
use Rattle.entail_text.proofs.other.first_valid.Given as goal

-- none of the certificates so far is the one
abbrev pub invariant-loop-proof : goal.invariant-loop-proof
invariant-loop-proof l =
    first_valid (map view.proof (drop l.proof-index l.proofs)) l.number (map term l.hyps) (term l.goal) ≡ first_valid (map view.proof l.proofs) l.number (map term l.hyps) (term l.goal)
