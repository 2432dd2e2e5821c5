use Rattle.std.proofs.Common.{◌≡◌, ◌<◌, ℕ}
use Rattle.cov_ast.specs.View as view
use Rattle.typing_law.specs.Accepted.{IsAccepted}
use Rattle.typing_law.specs.Verdicts.{counts}
use Rattle.levels.specs.Projection.{projected}
use Rattle.level_text.specs.Views as level_view
use Rattle.levels.proofs.check.check_each.Given as goal

abbrev pub invariant-loop-observer : goal.invariant-loop-observer
invariant-loop-observer l = record {
  accepted : (other : ℕ) → other < l.observer → IsAccepted (projected (level_view.levels l.l) other (view.program l.p));
  counted : (other : ℕ) → other < l.observer → l.count ≡ counts (projected (level_view.levels l.l) other (view.program l.p));
}
