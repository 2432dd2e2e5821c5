use Rattle.std.proofs.Common.{◌≡◌, ◌+◌, ◌≤◌}
use Rattle.cov_ast.specs.Plain.{plain}
use Rattle.cov_ast.specs.View as view
use Rattle.refute.specs.Trials.{AgreeBefore, fit_among}
use Rattle.refute.proofs.trials.refute.Given as goal

abbrev pub invariant-loop-before : goal.invariant-loop-before
invariant-loop-before g l = record {
  agree : AgreeBefore (plain (view.program l.p)) (l.before + 1);
  fit : l.fit ≡ fit_among (plain (view.program l.p)) l.before;
  few : l.fit ≤ l.before;
}
