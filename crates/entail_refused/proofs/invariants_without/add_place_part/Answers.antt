use Rattle.std.proofs.Common.{◌++◌, ◌∙◌, ap, append_assoc, codes, decimal}
use Rattle.std.proofs.lemmas.Result.{on_ok_weaker}
use Rattle.text_parts.specs.Lines.{line}
use Rattle.entail_refused.proofs.invariants_without.add_place_part.Goals as goal

pub returns : goal.returns
returns c =
    let old = c.args.text.now in
    let front = codes ", line " in
    let number = decimal (line c.args.bytes.now c.args.at) in
    let words = codes ", has none that mentions it)\n" in
    let so_far = c.in_ok-add_line_of.ensures ∙ ap (λ s. s ++ number) c.in_ok-extend_from_slice.ensures.ok ∙ append_assoc old front number in
    on_ok_weaker c.extend_from_slice-2.result
    (λ is. is ∙ ap (λ s. s ++ words) so_far ∙ append_assoc old (front ++ number) words)
    c.extend_from_slice-2.ensures.ok
