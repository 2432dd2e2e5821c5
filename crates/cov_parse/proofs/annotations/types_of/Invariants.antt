use Rattle.std.proofs.Common.{◌≡◌, ◌++◌, map, reverse, length}
use Rattle.cov_ast.specs.View as ast
use Rattle.cov_read.specs.StateViews as states
use Rattle.cov_text.specs.GivenTrees as spec
use Rattle.cov_parse.proofs.annotations.types_of.Given as goal

abbrev pub invariant-loop-pair : goal.invariant-loop-pair
invariant-loop-pair l = map ast.typed l.made ++ map spec.pair_of (map states.typed (reverse l.rest)) ≡ map spec.pair_of (map states.typed l.fn.pairs)

abbrev pub decreases-loop-pair : goal.decreases-loop-pair
decreases-loop-pair l = length l.rest
