use Rattle.std.proofs.Common.{◌≡◌, drop}
use Rattle.cov_ast.specs.View as view
use Rattle.annotate.specs.AnnotatedText.{parts_in_block}
use Rattle.annotate.specs.Inside.Choosing.{chosen_at}
use Rattle.annotate.specs.Inside.Going.{halfway, parts_gone}
use Rattle.annotate.proofs.uses.Uses.+blocks.Given as goal

-- behind the statements that are left it stands as behind all of them
abbrev pub invariant-add_block-loop-stmt : goal.invariant-add_block-loop-stmt
invariant-add_block-loop-stmt l =
    parts_gone (parts_in_block (chosen_at l.chosen) (view.block (drop l.stmt-index l.body))) (halfway l.self)
    ≡ parts_gone (parts_in_block (chosen_at l.chosen) (view.block l.body)) (halfway l.fn.self)
