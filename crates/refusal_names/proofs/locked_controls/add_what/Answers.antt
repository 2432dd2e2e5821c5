use Rattle.std.proofs.Common.{◌++◌, ◌∙◌, ap, append_assoc, codes}
use Rattle.std.proofs.lemmas.Result.{on_ok_weaker}
use Rattle.refusal_names.proofs.locked_controls.add_what.Goals as goal

pub returns : goal.returns
returns c =
    let old = c.args.text.now in
    let front = codes ", and can't be assumed: put " in
    let name = c.text.result.now in
    on_ok_weaker c.extend_from_slice-2.result
    (λ is. is ∙ ap (λ s. s ++ name) c.in_ok-extend_from_slice.ensures.ok ∙ append_assoc old front name ∙ ap (λ s. old ++ (front ++ s)) c.text.ensures.text)
    c.extend_from_slice-2.ensures.ok
