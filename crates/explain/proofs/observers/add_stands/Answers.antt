use Rattle.std.proofs.Common.{◌++◌, ◌∙◌, ap, codes, decimal}
use Rattle.std.proofs.lemmas.Result.{on_ok_weaker}
use Rattle.explain.proofs.LevelLaws.{parts_of_five}
use Rattle.explain.proofs.observers.add_stands.Goals as goal

pub returns : goal.returns
returns c =
    let old = c.args.text.now in
    let name = c.args.name in
    let says = codes " stands for " in
    let number = decimal c.args.number in
    let rest = codes " in annotations here\n" in
    on_ok_weaker c.extend_from_slice-4.result
    (λ is. is
    ∙ ap (λ t. t ++ rest) (c.in_ok-add_number.ensures
    ∙ ap (λ t. t ++ number) (c.in_ok-extend_from_slice-3.ensures.ok
    ∙ ap (λ t. t ++ says) (c.in_ok-extend_from_slice-2.ensures.ok ∙ (λ i. c.in_ok-extend_from_slice.ensures.ok i ++ c.text.ensures.text i))))
    ∙ parts_of_five old (codes "  ") name says number rest)
    c.extend_from_slice-4.ensures.ok
