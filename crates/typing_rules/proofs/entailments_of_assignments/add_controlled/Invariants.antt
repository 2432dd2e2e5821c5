use Rattle.std.proofs.Common.{◌≡◌, ◌≤◌, ◌++◌, ◌-◌, ℕ, length, map}
use Rattle.std.specs.Prelude.{filter}
use Rattle.std.specs.List.{range_with_len}
use Rattle.cov_expr.specs.View.{term}
use Rattle.cov_ast.specs.Plain.{plain}
use Rattle.cov_ast.specs.View as view
use Rattle.typing_law.specs.Entailments.{controlled_follows}
use Rattle.typing_state.specs.KeptPoints.{AtPoint}
use Rattle.typing_rules.specs.Listed.{entailments_of, is_shown_controlled}
use Rattle.typing_rules.proofs.entailments_of_assignments.add_controlled.Given as goal

abbrev pub decreases-loop-y : goal.decreases-loop-y
decreases-loop-y l = length l.p.vars - l.from

abbrev pub invariant-loop-y : goal.invariant-loop-y
invariant-loop-y l =
    (l.from ≤ length l.p.vars) × ((t : ℕ) → AtPoint (plain (view.program l.p)) t l.point (λ a.
    entailments_of a.preds l.entailments
    ≡ entailments_of a.preds l.initial.entailments
    ++ map (controlled_follows (plain (view.program l.p)) t a l.x (term l.e)) (filter (is_shown_controlled (plain (view.program l.p)) t a l.x) (range_with_len 0 l.from))))
