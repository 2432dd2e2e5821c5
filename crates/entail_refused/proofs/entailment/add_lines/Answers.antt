use Rattle.std.proofs.Common.{◌++◌, ap, ◌∙◌, map, option_map}
use Rattle.std.proofs.lemmas.Result.{on_ok_weaker}
use Rattle.cov_expr.specs.View.{term}
use Rattle.cov_ast.specs.Plain.{plain}
use Rattle.cov_ast.specs.View as view
use Rattle.entail_text.specs.EntailmentLines.{entailment_text}
use Rattle.entail_refused.specs.Remarked.{remarks_on}
use Rattle.entail_refused.specs.Sites as sites
use Rattle.entail_refused.proofs.entailment.add_lines.Goals as goal

pub returns : goal.returns
returns c =
    let p = view.program c.args.p.now in
    let bytes = c.args.bytes.now in
    let e = c.args.e.now in
    let old = c.args.text.now in
    let site = option_map sites.site c.args.site.now in
    let hyps = map term e.hyps in
    let remarks = c.as_slice-2.ensures ∙ c.in_ok-remarks.ensures ∙ ap (λ hs. remarks_on (plain p) bytes site (map term hs)) c.as_slice.ensures in
    on_ok_weaker c.add_told.result
    (λ is. is ∙ (λ i. old ++ entailment_text (c.in_ok-names.ensures i) hyps (remarks i) (term e.goal) (c.in_ok-cert.ensures i))) c.add_told.ensures
