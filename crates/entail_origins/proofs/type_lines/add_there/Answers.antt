use Rattle.std.proofs.Common.{◌++◌, ◌∙◌, ap, append_assoc, codes}
use Rattle.std.proofs.lemmas.Result.{on_ok_weaker}
use Rattle.entail_origins.specs.TypeLines as spec
use Rattle.entail_origins.proofs.type_lines.add_there.Goals as goal

pub returns : goal.returns
returns c =
    let words = spec.assignment_words c.args.of_value in
    on_ok_weaker c.extend_from_slice-2.result
    (λ is. is ∙ ap (λ bs. c.extend_from_slice.new.self ++ bs) (c.as_bytes.ensures.value ∙ c.assignment_words.ensures)
    ∙ ap (λ s. s ++ words) c.in_ok-extend_from_slice.ensures.ok ∙ append_assoc c.args.text.now (codes " as ..` there, where that is shown") words)
    c.extend_from_slice-2.ensures.ok
