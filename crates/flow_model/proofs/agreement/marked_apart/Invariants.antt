use Rattle.std.proofs.Common.{◌≡◌, ℕ, ◌<◌, false}
use Rattle.cov_ast.specs.Plain.{plain}
use Rattle.cov_ast.specs.View as view
use Rattle.flow_model.specs.Inside.{is_marked_apart}
use Rattle.flow_model.proofs.agreement.marked_apart.Given as goal

abbrev pub invariant-loop-x : goal.invariant-loop-x
invariant-loop-x l = (k : ℕ) → k < l.x → is_marked_apart (plain (view.program l.p)) l.m1 l.m2 l.controls l.hidden k ≡ false
