use Rattle.std.proofs.Common.{◌≡◌, drop}
use Rattle.cov_ast.specs.Plain.{plain}
use Rattle.cov_ast.specs.View as view
use Rattle.refusal_names.specs.OutsideVariables.{first_unstable_class}
use Rattle.refusal_names.proofs.outside.first_unstable_class.Given as goal

-- the first of what is left is the first of all
abbrev pub invariant-loop-y : goal.invariant-loop-y
invariant-loop-y l =
    let p = plain (view.program l.p) in
    first_unstable_class p l.stable l.controls (drop l.y-index l.variables) ≡ first_unstable_class p l.stable l.controls l.variables
