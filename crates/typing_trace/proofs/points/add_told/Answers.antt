use Rattle.std.proofs.Common.{◌++◌, ◌∙◌, ap, sym}
use Rattle.std.proofs.lemmas.Result.{on_ok_weaker}
use Rattle.cov_ast.specs.View as view
use Rattle.typing_trace.proofs.TellingLaws.{many_told}
use Rattle.typing_trace.proofs.points.add_told.Goals as goal

pub returns-else-spots-le-MOST_TOLD : goal.returns-else-spots-le-MOST_TOLD
returns-else-spots-le-MOST_TOLD c =
    on_ok_weaker c.add_first.result
    (λ is. is ∙ ap (λ s. c.args.text.now ++ s) (sym (many_told (view.program c.args.p.now) c.args.bytes.now c.args.spots.now c.if-spots-le-MOST_TOLD.false))) c.add_first.ensures
