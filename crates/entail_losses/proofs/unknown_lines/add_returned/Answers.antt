use Rattle.std.proofs.Common.{◌++◌, ◌∙◌, ap, append_assoc, codes}
use Rattle.std.proofs.lemmas.Result.{on_ok_weaker}
use Rattle.cov_ast.specs.Declarations.{lock_at}
use Rattle.cov_ast.specs.Plain.{plain}
use Rattle.cov_ast.specs.View as view
use Rattle.entail_losses.specs.UnknownLines.{in_line}
use Rattle.entail_losses.proofs.unknown_lines.add_returned.Goals as goal

pub returns : goal.returns
returns c =
    let old = c.args.text.now in
    let front = codes "the lock " in
    let name = (lock_at (plain (view.program c.args.p.now)) c.args.l).name in
    let place = in_line (codes " is given back, line ") c.args.bytes.now c.args.at in
    let end = codes "\n" in
    on_ok_weaker c.extend_from_slice-2.result
    (λ is. is
    ∙ ap (λ t. t ++ end)
    (c.in_ok-add_in_line.ensures
    ∙ ap (λ t. t ++ place) (c.in_ok-add_lock_name.ensures ∙ ap (λ t. t ++ name) c.in_ok-extend_from_slice.ensures.ok ∙ append_assoc old front name)
    ∙ append_assoc old (front ++ name) place)
    ∙ append_assoc old ((front ++ name) ++ place) end)
    c.extend_from_slice-2.ensures.ok
