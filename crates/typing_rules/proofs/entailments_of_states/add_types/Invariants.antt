use Rattle.std.proofs.Common.{◌≡◌, ◌++◌, ℕ, drop, map}
use Rattle.cov_ast.specs.Plain.{Plain}
use Rattle.cov_ast.specs.View as view
use Rattle.typing_law.specs.Entailments.{type_follows}
use Rattle.typing_state.specs.KeptPoints.{AtPoint}
use Rattle.typing_rules.specs.Listed.{entailments_of}
use Rattle.typing_rules.proofs.entailments_of_states.add_types.Given as goal

abbrev pub invariant-loop-z : goal.invariant-loop-z
invariant-loop-z l =
    (p : Plain) → (t : ℕ) → AtPoint p t l.point (λ a.
    entailments_of a.preds l.entailments ++ map (type_follows a) (map view.typed (drop l.z-index l.types))
    ≡ entailments_of a.preds l.initial.entailments ++ map (type_follows a) (map view.typed l.types))
