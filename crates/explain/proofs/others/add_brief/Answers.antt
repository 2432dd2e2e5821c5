use Rattle.std.proofs.Common.{◌≡◌, ◌++◌, ◌∙◌, ap, append_assoc, codes, map}
use Rattle.std.proofs.lemmas.Result.{on_ok_weaker}
use Rattle.call_judge.specs.Check.{name_in}
use Rattle.call_reports.specs.Replies.{refused}
use Rattle.call_reports.specs.Reports.{report_of}
use Rattle.cov_ast.specs.View as view
use Rattle.explain.specs.Explanations.{where_is}
use Rattle.explain.specs.OtherTellings.{brief_text}
use Rattle.explain.proofs.others.add_brief.Goals as goal

pub returns : goal.returns
unfolding brief_text
returns c =
    let p = view.program c.args.program.now in
    let r = c.args.found.now.refusal in
    let old = c.args.text.now in
    let place = where_is c.args.name.now c.args.bytes.now r.place in
    let report = report_of (refused r (name_in p.threads r.thread)) in
    let label = codes "  suggestion:   " in
    let entry = c.args.found.now.entry in
    let end = codes "\n" in
    let thread : c.thread_name-thread.result ≡ name_in p.threads r.thread =
    c.thread_name-thread.ensures ∙ ap (λ ts. name_in (map view.thread ts) r.thread) c.as_slice.ensures in
    let told = c.in_ok-add_report.ensures ∙ ap (λ s. s ++ report_of (refused r c.thread_name-thread.result)) c.in_ok-add_where.ensures
    ∙ ap (λ t. (old ++ place) ++ report_of (refused r t)) thread in
    let found = c.in_ok-extend_from_slice-2.ensures.ok ∙ ap (λ e. c.extend_from_slice.new.self ++ e) c.as_slice-2.ensures ∙ ap (λ s. s ++ entry) (c.in_ok-extend_from_slice.ensures.ok ∙ ap (λ s. s ++ label) told) in
    on_ok_weaker c.extend_from_slice-3.result
    (λ is. is ∙ ap (λ s. s ++ end) found
    ∙ append_assoc (((old ++ place) ++ report) ++ label) entry end
    ∙ append_assoc ((old ++ place) ++ report) label (entry ++ end)
    ∙ append_assoc (old ++ place) report (label ++ (entry ++ end))
    ∙ append_assoc old place (report ++ (label ++ (entry ++ end))))
    c.extend_from_slice-3.ensures.ok
