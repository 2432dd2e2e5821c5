use Rattle.std.proofs.Common.{◌++◌, ◌∙◌, ap, append_assoc, codes}
use Rattle.std.proofs.lemmas.Result.{on_ok_weaker}
use Rattle.explain.specs.OtherTellings.{look_end, other_place}
use Rattle.explain.proofs.others.add_look_text.Goals as goal

pub returns : goal.returns
returns c =
    let old = c.args.text.now in
    let front = codes "  look first at " in
    let where_it_is = other_place c.args.bytes.now c.args.own c.args.place in
    let end = look_end c.args.is_own in
    let so_far = c.in_ok-add_other_place.ensures ∙ ap (λ s. s ++ where_it_is) c.in_ok-extend_from_slice.ensures.ok ∙ append_assoc old front where_it_is in
    on_ok_weaker c.add_look_end.result
    (λ is. is ∙ ap (λ s. s ++ end) so_far ∙ append_assoc old (front ++ where_it_is) end)
    c.add_look_end.ensures
