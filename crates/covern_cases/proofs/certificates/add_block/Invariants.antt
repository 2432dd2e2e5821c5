use Rattle.std.proofs.Common.{◌≡◌, ◌++◌, drop}
use Rattle.cov_ast.specs.View as view
use Rattle.covern_cases.specs.Claims.{block_lines}
use Rattle.covern_cases.proofs.certificates.add_block.Given as goal

-- what is written, and what is left, are the whole block
abbrev pub invariant-loop-stmt : goal.invariant-loop-stmt
invariant-loop-stmt l =
    l.out ++ block_lines (view.block (drop l.stmt-index l.body)) ≡ l.initial.out ++ block_lines (view.block l.body)
