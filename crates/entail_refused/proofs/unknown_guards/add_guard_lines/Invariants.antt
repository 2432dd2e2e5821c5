use Rattle.std.proofs.Common.{◌≡◌, ◌++◌, drop, map}
use Rattle.cov_ast.specs.LocksAlong.{no_locks}
use Rattle.cov_ast.specs.Plain.{plain}
use Rattle.cov_ast.specs.View as view
use Rattle.mode_state.specs.Sets.{modes_at}
use Rattle.statement_paths.specs.Paths.{step}
use Rattle.entail_refused.specs.UnknownGuards.{lines_along}
use Rattle.entail_refused.proofs.unknown_guards.add_guard_lines.Given as goal

-- the modes by the locks that are held, and what is written, with what the steps that are left give, are the lines of all
abbrev pub invariant-loop-step : goal.invariant-loop-step
invariant-loop-step l =
    let p = plain (view.program l.p) in
    record {
      modes : l.modes ≡ modes_at p l.t l.modes.held;
      told : l.text ++ lines_along p l.t l.bytes l.modes.held (map step (drop l.step-index l.steps)) ≡ l.initial.text ++ lines_along p l.t l.bytes (no_locks p) (map step l.steps);
    }
