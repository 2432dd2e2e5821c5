use Rattle.std.proofs.Common.{◌≡◌, ◌++◌, drop}
use Rattle.cov_ast.specs.View as view
use Rattle.code_lines.specs.CodeShares as spec
use Rattle.code_lines.specs.Inside.{AreLeft, IsSeen, told}
use Rattle.code_lines.proofs.walk.Scene.+blocks.Given as goal

-- the lines so far, and those of the statements that are left, are those of all
abbrev pub invariant-add_block-loop-stmt : goal.invariant-add_block-loop-stmt
invariant-add_block-loop-stmt l = record {
  text : l.text ++ told l.self (spec.block_shares l.self.total (view.block (drop l.stmt-index l.body)) l.left) ≡ l.fn.text ++ told l.self (spec.block_shares l.self.total (view.block l.body) l.lines);
  left : spec.behind_block (view.block (drop l.stmt-index l.body)) l.left ≡ spec.behind_block (view.block l.body) l.lines;
  there : AreLeft l.self l.left;
  seen : IsSeen l.self.bytes.now l.seen;
}
