use Rattle.std.proofs.Common.{◌≡◌, drop, map}
use Rattle.cov_ast.specs.View as view
use Rattle.entail_refused.specs.GivenElsewhere.{is_given}
use Rattle.entail_refused.proofs.given.is_given.Given as goal

-- none so far has the number
abbrev pub invariant-loop-proof : goal.invariant-loop-proof
invariant-loop-proof l = is_given (map view.proof (drop l.proof-index l.proofs)) l.number ≡ is_given (map view.proof l.proofs) l.number
