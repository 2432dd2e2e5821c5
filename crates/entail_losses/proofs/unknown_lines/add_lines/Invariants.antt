use Rattle.std.proofs.Common.{◌≡◌, ◌++◌, drop, map}
use Rattle.cov_ast.specs.Plain.{plain}
use Rattle.cov_ast.specs.View as view
use Rattle.entail_losses.specs.UnknownLines.{lines_of}
use Rattle.statement_paths.specs.Paths.{step}
use Rattle.entail_losses.proofs.unknown_lines.add_lines.Given as goal

-- the lines so far, and those of the rest, are all
abbrev pub invariant-loop-x : goal.invariant-loop-x
invariant-loop-x l =
    let p = plain (view.program l.p) in
    let steps = map step l.steps in
    l.text ++ lines_of p l.t l.names l.bytes l.stable steps (drop l.x-index l.variables) ≡ l.fn.text ++ lines_of p l.t l.names l.bytes l.stable steps l.variables
