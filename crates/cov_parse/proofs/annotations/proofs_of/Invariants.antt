use Rattle.std.proofs.Common.{◌≡◌, ◌++◌, map, reverse, length}
use Rattle.cov_ast.specs.View as ast
use Rattle.cov_read.specs.StateViews as states
use Rattle.cov_text.specs.GivenTrees as spec
use Rattle.cov_parse.proofs.annotations.proofs_of.Given as goal

abbrev pub invariant-loop-proof : goal.invariant-loop-proof
invariant-loop-proof l = map ast.proof l.made ++ map spec.proof_of (map states.proof (reverse l.rest)) ≡ map spec.proof_of (map states.proof l.fn.proofs)

abbrev pub decreases-loop-proof : goal.decreases-loop-proof
decreases-loop-proof l = length l.rest
