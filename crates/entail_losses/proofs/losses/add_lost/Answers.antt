use Rattle.std.proofs.Common.{◌≡◌, ◌++◌, ◌∙◌, ap, length, map, sym}
use Rattle.std.proofs.lemmas.Result.{on_ok_weaker}
use Rattle.cov_ast.specs.Plain.{plain}
use Rattle.cov_ast.specs.View as view
use Rattle.cov_expr.specs.View.{term}
use Rattle.entail_losses.specs.Forgotten as forgotten
use Rattle.entail_losses.specs.LeftOut as left
use Rattle.entail_losses.specs.Losses.{all_lines, helping, lost_terms, unless_hopeless}
use Rattle.entail_losses.proofs.LostLaws.{other_told, text_told}
use Rattle.entail_losses.proofs.losses.add_lost.Goals as goal

pub returns-then-len-before : goal.returns-then-len-before
returns-then-len-before c =
    let p = plain (view.program c.args.p.now) in
    let names = c.args.names.now in
    let bytes = c.args.bytes.now in
    let known = map term c.args.e.known.now in
    let hyps = map term c.args.e.hyps.now in
    let asked = term c.args.e.goal.now in
    let os = map left.seen c.args.lost.found.now in
    let fs = map forgotten.seen c.args.lost.parts.now in
    let old = c.args.text.now in
    let told = helping p names bytes known hyps asked os fs in
    let other = unless_hopeless hyps asked (lost_terms os fs) (all_lines p names bytes os fs) in
    let same : length (old ++ told) ≡ length old
    = ap length (sym c.in_ok-add_helping.ensures) ∙ sym c.len.ensures ∙ c.if-len-before.true ∙ c.len-before.ensures in
    on_ok_weaker c.add_unless_hopeless.result
    (λ is. is ∙ ap (λ t. t ++ other) c.in_ok-add_helping.ensures ∙ other_told old told other same)
    c.add_unless_hopeless.ensures

pub returns-else-len-before : goal.returns-else-len-before
returns-else-len-before c =
    let p = plain (view.program c.args.p.now) in
    let names = c.args.names.now in
    let bytes = c.args.bytes.now in
    let known = map term c.args.e.known.now in
    let hyps = map term c.args.e.hyps.now in
    let asked = term c.args.e.goal.now in
    let os = map left.seen c.args.lost.found.now in
    let fs = map forgotten.seen c.args.lost.parts.now in
    let old = c.args.text.now in
    let told = helping p names bytes known hyps asked os fs in
    let other = unless_hopeless hyps asked (lost_terms os fs) (all_lines p names bytes os fs) in
    c.in_ok-add_helping.ensures
    ∙ text_told old told other
    (λ same. c.if-len-before.false (c.len.ensures ∙ ap length c.in_ok-add_helping.ensures ∙ same ∙ sym c.len-before.ensures))
