use Rattle.std.proofs.Common.{◌++◌, ◌∙◌, ap, append_assoc, codes}
use Rattle.std.proofs.lemmas.Result.{on_ok_weaker}
use Rattle.entail_losses.specs.StateWords.{kind_text}
use Rattle.entail_losses.specs.UnknownLines.{in_line}
use Rattle.entail_losses.proofs.unknown_lines.add_unlisted.Goals as goal

pub returns : goal.returns
returns c =
    let old = c.args.text.now in
    let front = codes "no predicate in the " in
    let kind = kind_text c.args.state.kind in
    let place = in_line (codes ", line ") c.args.bytes.now c.args.state.at in
    let end = codes ", mentions it, and only what is listed there is kept\n" in
    on_ok_weaker c.extend_from_slice-2.result
    (λ is. is
    ∙ ap (λ t. t ++ end)
    (c.in_ok-add_in_line.ensures
    ∙ ap (λ t. t ++ place) (c.in_ok-add_kind.ensures ∙ ap (λ t. t ++ kind) c.in_ok-extend_from_slice.ensures.ok ∙ append_assoc old front kind)
    ∙ append_assoc old (front ++ kind) place)
    ∙ append_assoc old ((front ++ kind) ++ place) end)
    c.extend_from_slice-2.ensures.ok
