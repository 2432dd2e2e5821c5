use Rattle.std.proofs.Common.{◌≡◌, ◌++◌, drop, map}
use Rattle.cov_ast.specs.View as view
use Rattle.deeper_text.specs.DeeperText as spec
use Rattle.deeper_text.specs.Inside.{found}
use Rattle.deeper_text.proofs.found.find_each.Given as goal

-- what is found so far, and for what is left, is what is found for all
abbrev pub invariant-loop-entailment : goal.invariant-loop-entailment
invariant-loop-entailment l =
    map found l.made ++ spec.all_found (view.program l.p) (drop l.entailment-index l.left) ≡ spec.all_found (view.program l.p) l.left
