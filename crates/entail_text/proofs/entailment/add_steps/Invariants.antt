use Rattle.std.proofs.Common.{◌≡◌, ◌∷◌, ◌++◌, drop, codes, decimal, flat_map}
use Rattle.entail_text.specs.EntailmentLines as spec
use Rattle.entail_text.proofs.entailment.add_steps.Given as goal

-- what is written, and what is left, are the whole path
abbrev pub invariant-loop-step : goal.invariant-loop-step
invariant-loop-step l =
    l.text ++ flat_map (λ m. codes "." ++ decimal m) (drop l.step-index l.rest) ≡ l.fn.text ++ spec.place_of (l.first ∷ l.rest)
