use Rattle.std.proofs.Common.{◌≡◌, drop, map}
use Rattle.cov_ast.specs.Plain.{bare_block}
use Rattle.cov_ast.specs.View as view
use Rattle.cov_ast.proofs.bare.+blocks.Given as goal

-- the statements so far, in front of what is left without annotations, are all of it
abbrev pub invariant-plain_block-loop-stmt : goal.invariant-plain_block-loop-stmt
invariant-plain_block-loop-stmt l = view.onto (map view.stmt l.bare) (bare_block (view.block (drop l.stmt-index l.body))) ≡ bare_block (view.block l.body)
