use Rattle.std.proofs.Common.{◌++◌, ◌∙◌, ap, append_assoc, codes}
use Rattle.std.proofs.lemmas.Result.{on_ok_weaker}
use Rattle.entail_losses.specs.UnknownLines.{in_line, own_end}
use Rattle.entail_losses.proofs.unknown_lines.add_own.Goals as goal

pub returns : goal.returns
returns c =
    let old = c.args.text.now in
    let front = in_line (codes "the assignment in line ") c.args.bytes.now c.args.at in
    on_ok_weaker c.extend_from_slice.result
    (λ is. is ∙ ap (λ t. t ++ own_end) c.in_ok-add_in_line.ensures ∙ append_assoc old front own_end)
    c.extend_from_slice.ensures.ok
