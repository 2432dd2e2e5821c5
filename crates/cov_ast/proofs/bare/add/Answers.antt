use Rattle.std.proofs.Common.{◌∙◌, [], ◌∷◌, ◌++◌, ap, map}
use Rattle.std.proofs.lemmas.List.{map-append}
use Rattle.cov_ast.specs.View as view
use Rattle.cov_ast.proofs.Blocks.{onto_append}
use Rattle.cov_ast.proofs.bare.add.Goals as goal

pub returns-in_ok-push : goal.returns-in_ok-push
returns-in_ok-push c rest =
    rw (c.in-Some.is, c.in_ok-push.ensures.ok)
    (ap (λ ps. view.onto ps rest) (map-append view.stmt c.args.body.now (c.unproved-stmt.result ∷ []) ∙ ap (λ p. map view.stmt c.args.body.now ++ p ∷ []) c.unproved-stmt.ensures)
    ∙ onto_append (map view.stmt c.args.body.now) _ rest)
