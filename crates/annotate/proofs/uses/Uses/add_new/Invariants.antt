use Rattle.std.proofs.Common.{◌≡◌, drop, map}
use Rattle.annotate.specs.AnnotatedText.{part_of_new}
use Rattle.annotate.specs.Inside.Choosing.{lent_choice}
use Rattle.annotate.specs.Inside.Going.{halfway, parts_gone}
use Rattle.annotate.proofs.uses.Uses.add_new.Given as goal

-- behind the choices that are left it stands as behind all of them
abbrev pub invariant-loop-choice : goal.invariant-loop-choice
invariant-loop-choice l =
    parts_gone (map (part_of_new l.at) (map lent_choice (drop l.choice-index l.chosen))) (halfway l.self)
    ≡ parts_gone (map (part_of_new l.at) (map lent_choice l.chosen)) (halfway l.fn.self)
