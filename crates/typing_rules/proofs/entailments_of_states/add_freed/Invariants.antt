use Rattle.std.proofs.Common.{◌≡◌, ◌++◌, ℕ, not, drop, map}
use Rattle.std.specs.Prelude.{filter}
use Rattle.cov_ast.specs.Declarations.{is_control}
use Rattle.cov_ast.specs.Plain.{plain}
use Rattle.cov_ast.specs.View as view
use Rattle.typing_law.specs.Entailments.{freed_value}
use Rattle.typing_state.specs.KeptPoints.{AtPoint}
use Rattle.typing_rules.specs.Listed.{entailments_of}
use Rattle.typing_rules.proofs.entailments_of_states.add_freed.Given as goal

abbrev pub invariant-loop-x : goal.invariant-loop-x
invariant-loop-x l =
    (t : ℕ) → AtPoint (plain (view.program l.p)) t l.point (λ a.
    entailments_of a.preds l.entailments
    ++ map (freed_value (plain (view.program l.p)) t a) (filter (λ x. not (is_control (plain (view.program l.p)) x)) (drop l.x-index l.hidden))
    ≡ entailments_of a.preds l.initial.entailments
    ++ map (freed_value (plain (view.program l.p)) t a) (filter (λ x. not (is_control (plain (view.program l.p)) x)) l.hidden))
