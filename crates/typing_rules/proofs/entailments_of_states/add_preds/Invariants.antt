use Rattle.std.proofs.Common.{◌≡◌, ◌++◌, List, drop, map}
use Rattle.cov_expr.specs.Term.{Term}
use Rattle.cov_expr.specs.View.{term}
use Rattle.typing_law.specs.Entailments.{from_preds}
use Rattle.typing_rules.specs.Listed.{entailments_of}
use Rattle.typing_rules.proofs.entailments_of_states.add_preds.Given as goal

abbrev pub invariant-loop-e : goal.invariant-loop-e
invariant-loop-e l =
    (known : List Term) → entailments_of known l.entailments ++ map (from_preds known) (map term (drop l.e-index l.preds))
    ≡ entailments_of known l.initial.entailments ++ map (from_preds known) (map term l.preds)
