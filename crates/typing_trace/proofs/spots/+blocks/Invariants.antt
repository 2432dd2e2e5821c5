use Rattle.std.proofs.Common.{◌≡◌, ◌++◌, drop}
use Rattle.cov_ast.specs.View as view
use Rattle.cov_ast.specs.WellFormed.{places}
use Rattle.typing_trace.specs.Spots as spec
use Rattle.typing_trace.proofs.spots.+blocks.Given as goal

-- those so far, and those of the statements that are left, are all of them
abbrev pub invariant-add_block-loop-stmt : goal.invariant-add_block-loop-stmt
invariant-add_block-loop-stmt l =
    l.spots ++ spec.spots_in l.span l.t (places (view.block (drop l.stmt-index l.body))) ≡ l.fn.spots ++ spec.spots_in l.span l.t (places (view.block l.body))
