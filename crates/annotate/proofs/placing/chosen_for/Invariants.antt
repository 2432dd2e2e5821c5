use Rattle.std.proofs.Common.{◌≡◌, drop, map}
use Rattle.annotate.specs.Inside.Choosing.{lent_choice}
use Rattle.annotate.specs.WithCertificates as spec
use Rattle.annotate.proofs.placing.chosen_for.Given as goal

-- what is left decides
abbrev pub invariant-loop-choice : goal.invariant-loop-choice
invariant-loop-choice l = spec.chosen_for (map lent_choice (drop l.choice-index l.chosen)) l.number ≡ spec.chosen_for (map lent_choice l.chosen) l.number
