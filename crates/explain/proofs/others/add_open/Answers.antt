use Rattle.std.proofs.Common.{◌-◌, ◌++◌, ◌∙◌, ap, append_assoc, flat_map, length, take}
use Rattle.std.proofs.lemmas.Result.{on_ok_weaker}
use Rattle.cov_ast.specs.View as view
use Rattle.explain.specs.OtherTellings.{open_lines, left_line, refusal_text}
use Rattle.explain.specs.declared.others.TheConstants.{MOST_TOLD}
use Rattle.explain.proofs.others.add_open.Goals as goal

pub returns : goal.returns
unfolding open_lines
returns c =
    let one = refusal_text c.args.name.now c.args.bytes.now (view.program c.args.program.now) in
    let left = c.args.left.now in
    let old = c.args.text.now in
    let told = c.in_ok-add_each.ensures ∙ ap (λ rs. old ++ flat_map one rs) c.first.ensures in
    on_ok_weaker c.add_left.result
    (λ is. is ∙ ap (λ s. s ++ left_line c.saturating_sub.result) told
    ∙ ap (λ n. (old ++ flat_map one (take MOST_TOLD left)) ++ left_line n) c.saturating_sub.ensures
    ∙ append_assoc old (flat_map one (take MOST_TOLD left)) (left_line (length left - MOST_TOLD)))
    c.add_left.ensures
