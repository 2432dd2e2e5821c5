use Rattle.std.proofs.Common.{◌≡◌, ◌+◌, ◌++◌, ℕ, drop, map}
use Rattle.cov_ast.specs.Plain.{Plain}
use Rattle.cov_ast.specs.View as view
use Rattle.typing_rules.specs.Inside.Walking.{asked_from}
use Rattle.typing_rules.specs.Keeping.{kept_for, view_kept}
use Rattle.typing_rules.specs.declared.purpose.Purpose.TheVariants.{Search}
use Rattle.typing_state.specs.KeptPoints.{AtPoint}
use Rattle.typing_rules.specs.Listed.{entailments_of}
use Rattle.typing_rules.proofs.searched.add_searched.Given as goal

abbrev pub invariant-loop-entailment : goal.invariant-loop-entailment
invariant-loop-entailment l = record {
  counted : l.number ≡ l.from + l.entailment-index;
  kept : (p : Plain) → (t : ℕ) → AtPoint p t l.point (λ a.
      map view_kept l.kept ++ kept_for (Search l.depth) (asked_from l.site.place (map view.proof l.proofs) l.number (entailments_of a.preds (drop l.entailment-index l.entailments)))
      ≡ map view_kept l.fn.kept ++ kept_for (Search l.depth) (asked_from l.site.place (map view.proof l.proofs) l.from (entailments_of a.preds l.entailments)));
}
