use Rattle.std.proofs.Common.{◌≡◌, ◌+◌, ℕ, drop, map}
use Rattle.cov_ast.specs.Plain.{Plain}
use Rattle.cov_ast.specs.View as view
use Rattle.typing_state.specs.KeptPoints.{AtPoint}
use Rattle.typing_rules.specs.Unproved.{first_unproved}
use Rattle.typing_rules.specs.Listed.{entailments_of}
use Rattle.typing_rules.proofs.certificates.first_unproved.Given as goal

abbrev pub invariant-loop-entailment : goal.invariant-loop-entailment
invariant-loop-entailment l = record {
  counted : l.number ≡ l.from + l.entailment-index;
  kept : (p : Plain) → (t : ℕ) → AtPoint p t l.point (λ a.
      first_unproved (map view.proof l.proofs) l.number (entailments_of a.preds (drop l.entailment-index l.entailments))
      ≡ first_unproved (map view.proof l.proofs) l.from (entailments_of a.preds l.entailments));
}
