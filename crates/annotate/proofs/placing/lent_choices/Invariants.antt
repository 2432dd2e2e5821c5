use Rattle.std.proofs.Common.{◌≡◌, map, take}
use Rattle.annotate.specs.Inside.Choosing.{lent_choice, view_choice}
use Rattle.annotate.proofs.placing.lent_choices.Given as goal

abbrev pub invariant-loop-choice : goal.invariant-loop-choice
invariant-loop-choice l = map lent_choice l.made ≡ map view_choice (take l.choice-index l.chosen)
