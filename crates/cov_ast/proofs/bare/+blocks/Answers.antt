use Rattle.std.proofs.Common.{◌≡◌, ◌∙◌, sym, map, drop, ap, []}
use Rattle.std.proofs.lemmas.List.{drop_all}
use Rattle.cov_ast.specs.Plain.{bare_block}
use Rattle.cov_ast.specs.View as view
use Rattle.cov_ast.proofs.Blocks.{onto_done}
use Rattle.cov_ast.proofs.bare.+blocks.Goals as goal

pub plain_block-returns : goal.plain_block-returns
plain_block-returns t c =
    let over : drop c.loop-stmt.stmt-index c.args.body.now ≡ [] = drop_all _ _ c.loop-stmt-test.false in
    sym (onto_done (map view.stmt c.loop-stmt.bare))
    ∙ ap (λ rest. view.onto (map view.stmt c.loop-stmt.bare) (bare_block (view.block rest))) (sym over)
    ∙ c.loop-stmt.invariant
