use Rattle.std.proofs.Common.{◌≡◌, drop}
use Rattle.cov_ast.specs.Plain.{plain}
use Rattle.cov_ast.specs.View as view
use Rattle.entail_losses.specs.About.{is_block_about}
use Rattle.entail_losses.proofs.unknown_about.+blocks.Given as goal

-- none so far says something of it
abbrev pub invariant-is_block_about-loop-stmt : goal.invariant-is_block_about-loop-stmt
invariant-is_block_about-loop-stmt l =
    is_block_about (plain (view.program l.p)) l.x (view.block (drop l.stmt-index l.body)) ≡ is_block_about (plain (view.program l.p)) l.x (view.block l.body)
