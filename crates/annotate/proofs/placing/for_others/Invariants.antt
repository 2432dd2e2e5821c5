use Rattle.std.proofs.Common.{◌≡◌, ◌++◌, drop, map}
use Rattle.annotate.specs.Inside.Choosing.{lent_choice}
use Rattle.annotate.specs.WithCertificates as spec
use Rattle.annotate.proofs.placing.for_others.Given as goal

-- what is made, and what is left of what is chosen for others, are all of it
abbrev pub invariant-loop-choice : goal.invariant-loop-choice
invariant-loop-choice l =
    map lent_choice l.made ++ spec.for_others l.number (map lent_choice (drop l.choice-index l.chosen)) ≡ spec.for_others l.number (map lent_choice l.chosen)
