use Rattle.std.proofs.Common.{◌-◌, ◌++◌, ◌∙◌, ap, append_assoc, length, take}
use Rattle.std.proofs.lemmas.Result.{on_ok_weaker}
use Rattle.cov_ast.specs.View as view
use Rattle.explain.specs.OtherTellings.{lines_of, sought_lines, unsought_line}
use Rattle.explain.specs.declared.others.TheConstants.{MOST_SOUGHT}
use Rattle.explain.proofs.others.add_some.Goals as goal

pub returns : goal.returns
unfolding lines_of
returns c =
    let sought = sought_lines c.args.name.now c.args.bytes.now (view.program c.args.program.now) c.args.refusal.now in
    let others = c.args.others.now in
    let old = c.args.text.now in
    let told = c.in_ok-add_sought.ensures ∙ ap (λ rs. old ++ sought rs) c.first.ensures in
    on_ok_weaker c.add_unsought.result
    (λ is. is ∙ ap (λ s. s ++ unsought_line c.saturating_sub.result) told
    ∙ ap (λ n. (old ++ sought (take MOST_SOUGHT others)) ++ unsought_line n) c.saturating_sub.ensures
    ∙ append_assoc old (sought (take MOST_SOUGHT others)) (unsought_line (length others - MOST_SOUGHT)))
    c.add_unsought.ensures
