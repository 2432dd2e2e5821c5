use Rattle.std.proofs.Common.{◌≡◌, drop, map}
use Rattle.cov_ast.specs.View as view
use Rattle.annotate.specs.AnnotatedText.{parts_of_proofs}
use Rattle.annotate.specs.Inside.Choosing.{lent_choice, view_choice}
use Rattle.annotate.specs.Inside.Going.{halfway, parts_gone}
use Rattle.annotate.proofs.uses.Uses.add_proofs.Given as goal

-- behind the proofs that are left, with what is still to be placed, it stands as behind all of them
abbrev pub invariant-loop-proof : goal.invariant-loop-proof
invariant-loop-proof l =
    parts_gone (parts_of_proofs l.at (map lent_choice l.left) (map view.proof (drop l.proof-index l.proofs))) (halfway l.self)
    ≡ parts_gone (parts_of_proofs l.at (map view_choice l.chosen) (map view.proof l.proofs)) (halfway l.fn.self)
