use Rattle.std.proofs.Common.{◌≡◌, ℕ, ◌<◌, false}
use Rattle.cov_ast.specs.Plain.{plain}
use Rattle.cov_ast.specs.View as view
use Rattle.flow_model.specs.FirstDifference.{is_broken}
use Rattle.flow_model.proofs.start.broken_invariant.Given as goal

abbrev pub invariant-loop-l : goal.invariant-loop-l
invariant-loop-l l = (k : ℕ) → k < l.l → is_broken (plain (view.program l.p)) l.m1 l.m2 k ≡ false
