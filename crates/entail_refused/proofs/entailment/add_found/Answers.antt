use Rattle.std.proofs.Common.{◌<◌, ◌++◌, ap, sym, ◌∙◌, append_assoc, arith, length, subst}
use Rattle.std.proofs.lemmas.List.{length-map}
use Rattle.std.proofs.lemmas.Result.{on_ok_weaker}
use Rattle.cov_ast.specs.View as view
use Rattle.entail_origins.specs.QuestionLines.{question_line}
use Rattle.entail_text.specs.Findings.{found_for}
use Rattle.typing_law.specs.ThreadEntailments.{view_entail}
use Rattle.entail_refused.specs.Asked.{entailment_lines, lines_of_finding}
use Rattle.entail_refused.specs.Sites.{IsSiteInRange, site_of}
use Rattle.entail_refused.proofs.SiteRanges.{site_in_range}
use Rattle.entail_refused.proofs.entailment.add_found.Goals as goal

pub add_searched-requires-clause-range : goal.add_searched-requires-clause-range
add_searched-requires-clause-range c =
    let p = c.args.p.now in
    let q = view.program p in
    let e = c.args.e.now in
    let inside : c.args.t < length q.threads = omega (arith, length-map p.threads view.thread, c.requires.thread) in
    subst (IsSiteInRange (length p.vars) (length p.locks)) (sym c.in_ok-site.ensures)
    (site_in_range q c.args.t e.place e.number (length p.vars) (length p.locks) c.requires.formed inside (length-map p.vars view.var) (length-map p.locks view.lock))

pub returns : goal.returns
returns c =
    let p = view.program c.args.p.now in
    let bytes = c.args.bytes.now in
    let t = c.args.t in
    let e = view_entail c.args.e.now in
    let old = c.args.text.now in
    let site = site_of p t e.place e.number in
    let question = question_line p t e.place e.number in
    let lines = entailment_lines p bytes t site e in
    let found = lines_of_finding p bytes t site e (found_for e.entailment.hyps e.entailment.goal) in
    let asked = (rw c.in_ok-site.ensures at c.in_ok-add_lines.ensures) ∙ ap (λ s. s ++ lines) c.in_ok-add_question.ensures ∙ append_assoc old question lines in
    on_ok_weaker c.add_searched.result
    (λ is. is ∙ ap (λ s. s ++ found) asked ∙ append_assoc old (question ++ lines) found)
    (rw c.in_ok-site.ensures at c.add_searched.ensures)
