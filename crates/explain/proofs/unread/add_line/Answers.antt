use Rattle.std.proofs.Common.{◌++◌, ◌∙◌, ap, append_assoc, codes, flat_map}
use Rattle.std.proofs.lemmas.Result.{on_ok_weaker}
use Rattle.cov_ast.specs.Plain.{plain}
use Rattle.cov_ast.specs.View as view
use Rattle.text_parts.specs.VariableNames.{spaced_name}
use Rattle.explain.proofs.unread.add_line.Goals as goal

pub returns : goal.returns
returns c =
    let old = c.args.text.now in
    let front = codes "  never read:  " in
    let names = flat_map (spaced_name (plain (view.program c.args.p.now))) c.args.xs.now in
    let words = codes "   (the thread stores to it, and alone may read it)\n" in
    let so_far = c.in_ok-add_variable_names.ensures ∙ ap (λ s. s ++ names) c.in_ok-extend_from_slice.ensures.ok ∙ append_assoc old front names in
    on_ok_weaker c.extend_from_slice-2.result
    (λ is. is ∙ ap (λ s. s ++ words) so_far ∙ append_assoc old (front ++ names) words)
    c.extend_from_slice-2.ensures.ok
