use Rattle.std.proofs.Common.{◌≡◌, ◌++◌, drop, map}
use Rattle.cov_ast.specs.View as view
use Rattle.tree_copies.proofs.certs.copy_proofs.Given as goal

abbrev pub invariant-loop-proof : goal.invariant-loop-proof
invariant-loop-proof l = map view.proof l.copies ++ map view.proof (drop l.proof-index l.proofs) ≡ map view.proof l.proofs
