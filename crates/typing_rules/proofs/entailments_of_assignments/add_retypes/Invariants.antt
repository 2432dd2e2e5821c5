use Rattle.std.proofs.Common.{◌≡◌, ◌++◌, ℕ, drop, map}
use Rattle.cov_expr.specs.View.{term}
use Rattle.cov_ast.specs.Plain.{Plain}
use Rattle.cov_ast.specs.View as view
use Rattle.typing_law.specs.Entailments.{retype_follows}
use Rattle.typing_state.specs.KeptPoints.{AtPoint}
use Rattle.typing_rules.specs.Listed.{entailments_of}
use Rattle.typing_rules.proofs.entailments_of_assignments.add_retypes.Given as goal

abbrev pub invariant-loop-r : goal.invariant-loop-r
invariant-loop-r l =
    (p : Plain) → (t : ℕ) → AtPoint p t l.point (λ a.
    entailments_of a.preds l.entailments ++ map (retype_follows p t a l.x (term l.e)) (map view.retype (drop l.r-index l.retypes))
    ≡ entailments_of a.preds l.initial.entailments ++ map (retype_follows p t a l.x (term l.e)) (map view.retype l.retypes))
