use Rattle.std.proofs.Common.{◌≡◌, ◌++◌, drop, map}
use Rattle.cov_ast.specs.Plain.{plain}
use Rattle.cov_ast.specs.View as view
use Rattle.entail_losses.specs.LeftOut.{seen}
use Rattle.entail_losses.specs.LeftOutLines.{left_out_lines}
use Rattle.entail_losses.proofs.left_out_lines.add_left_out_lines.Given as goal

-- the lines so far, and those of the rest, are all
abbrev pub invariant-loop-one : goal.invariant-loop-one
invariant-loop-one l =
    let p = plain (view.program l.p) in
    l.text ++ left_out_lines p l.names l.bytes (map seen (drop l.one-index l.found)) ≡ l.fn.text ++ left_out_lines p l.names l.bytes (map seen l.found)
