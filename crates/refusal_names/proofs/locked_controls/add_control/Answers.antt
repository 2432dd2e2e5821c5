use Rattle.std.proofs.Common.{◌++◌, ◌∙◌, ap, append_assoc, codes}
use Rattle.std.proofs.lemmas.Result.{on_ok_weaker}
use Rattle.refusal_names.proofs.locked_controls.add_control.Goals as goal

pub returns : goal.returns
returns c =
    let old = c.args.text.now in
    let front = codes "  " in
    let back = codes " is under the lock " in
    let name = c.text.result.now in
    let so_far = c.in_ok-extend_from_slice-2.ensures.ok ∙ ap (λ s. s ++ name) c.in_ok-extend_from_slice.ensures.ok ∙ append_assoc old front name in
    on_ok_weaker c.extend_from_slice-3.result
    (λ is. is ∙ ap (λ s. s ++ back) so_far ∙ append_assoc old (front ++ name) back ∙ ap (λ s. old ++ (front ++ (s ++ back))) c.text.ensures.text)
    c.extend_from_slice-3.ensures.ok
