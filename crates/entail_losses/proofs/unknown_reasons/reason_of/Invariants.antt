use Rattle.std.proofs.Common.{◌≡◌, drop, map}
use Rattle.cov_ast.specs.Plain.{plain}
use Rattle.cov_ast.specs.View as view
use Rattle.entail_losses.specs.Unknowns.{after_steps, reason, seen}
use Rattle.mode_state.specs.Sets.{modes_at}
use Rattle.statement_paths.specs.Paths.{step}
use Rattle.entail_losses.proofs.unknown_reasons.reason_of.Given as goal

-- the modes by the locks that are held, and what is told behind the steps that are left
abbrev pub invariant-loop-step : goal.invariant-loop-step
invariant-loop-step l =
    let p = plain (view.program l.p) in
    record {
      modes : l.modes ≡ modes_at p l.t l.modes.held;
      told : after_steps p l.t l.x l.modes.held (map step (drop l.step-index l.steps)) (seen l.so_far) ≡ reason p l.t l.x (map step l.steps);
    }
