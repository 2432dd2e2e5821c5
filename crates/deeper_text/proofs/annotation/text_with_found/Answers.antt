use Rattle.std.proofs.Common.{◌∙◌, ◌<◌, ap, length, map, subst, sym}
use Rattle.annotate.specs.Inside.Choosing.{chosen_in}
use Rattle.cov_ast.specs.View as view
use Rattle.deeper_text.proofs.TextLaws.{text_given}
use Rattle.deeper_text.specs.Inside.{found}
use Rattle.deeper_text.proofs.annotation.text_with_found.Goals as goal

pub returns : goal.returns
returns c =
    text_given (view.parsed c.args.p) c.in_ok-numbers.numbers (map found c.args.all.now) c.as_slice.result.now (length c.args.p.threads) c.text_with.result
    c.in_ok-numbers.ensures c.requires (ap length c.as_slice.ensures ∙ c.in_ok-chosen.ensures.count ∙ c.len.ensures)
    (λ t place lt. ap (λ cs. chosen_in cs t place) c.as_slice.ensures ∙ c.in_ok-chosen.ensures.chosen t place (subst (λ m. t < m) (sym c.len.ensures) lt)) c.text_with.ensures
