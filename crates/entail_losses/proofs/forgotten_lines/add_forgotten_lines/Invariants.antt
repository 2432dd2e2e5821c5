use Rattle.std.proofs.Common.{◌≡◌, ◌++◌, drop, map}
use Rattle.cov_ast.specs.Plain.{plain}
use Rattle.cov_ast.specs.View as view
use Rattle.entail_losses.specs.Forgotten.{seen}
use Rattle.entail_losses.specs.ForgottenLines.{forgotten_lines}
use Rattle.entail_losses.proofs.forgotten_lines.add_forgotten_lines.Given as goal

-- the lines so far, and those of the rest, are all
abbrev pub invariant-loop-one : goal.invariant-loop-one
invariant-loop-one l =
    let p = plain (view.program l.p) in
    l.text ++ forgotten_lines p l.names l.bytes (map seen (drop l.one-index l.found)) ≡ l.fn.text ++ forgotten_lines p l.names l.bytes (map seen l.found)
