use Rattle.std.proofs.Common.{◌≡◌, ℕ, ◌<◌, false}
use Rattle.cov_ast.specs.Plain.{plain}
use Rattle.cov_ast.specs.View as view
use Rattle.flow_model.specs.FirstDifference.{is_low_apart}
use Rattle.flow_model.proofs.start.low_apart.Given as goal

abbrev pub invariant-loop-x : goal.invariant-loop-x
invariant-loop-x l = (k : ℕ) → k < l.x → is_low_apart (plain (view.program l.p)) l.m1 l.m2 k ≡ false
