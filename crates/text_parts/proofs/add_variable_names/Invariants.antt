use Rattle.std.proofs.Common.{◌≡◌, ◌++◌, drop, flat_map}
use Rattle.cov_ast.specs.Plain.{plain}
use Rattle.cov_ast.specs.View as view
use Rattle.text_parts.specs.VariableNames.{spaced_name}
use Rattle.text_parts.proofs.add_variable_names.Given as goal

-- what is written so far, and then the rest, is all of it
abbrev pub invariant-loop-x : goal.invariant-loop-x
invariant-loop-x l = let p = plain (view.program l.p) in l.text ++ flat_map (spaced_name p) (drop l.x-index l.xs) ≡ l.fn.text ++ flat_map (spaced_name p) l.xs
