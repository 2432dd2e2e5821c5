use Rattle.std.proofs.Common.{◌≡◌, ◌++◌, ◌∙◌, ap, append_assoc, map}
use Rattle.std.proofs.lemmas.Result.{on_ok_weaker}
use Rattle.call_judge.specs.Check.{name_in}
use Rattle.call_reports.specs.Replies.{refused}
use Rattle.cov_ast.specs.View as view
use Rattle.entail_refused.specs.Asked.{asked}
use Rattle.explain.specs.Explanations.{explanation}
use Rattle.explain.specs.OtherTellings.{refusal_text}
use Rattle.refusal_names.specs.RefusalNames.{refusal_names}
use Rattle.explain.proofs.others.add_refusal.Goals as goal

pub returns : goal.returns
unfolding refusal_text
returns c =
    let p = view.program c.args.program.now in
    let name = c.args.name.now in
    let bytes = c.args.bytes.now in
    let r = c.args.refusal.now in
    let old = c.args.text.now in
    let told = explanation name bytes (refused r (name_in p.threads r.thread)) in
    let question = asked p bytes r.rule r.thread r.place r.detail in
    let thread : c.thread_name-thread.result ≡ name_in p.threads r.thread =
    c.thread_name-thread.ensures ∙ ap (λ ts. name_in (map view.thread ts) r.thread) c.as_slice.ensures in
    let first : c.add_explanation.new.text ≡ old ++ told =
    c.in_ok-add_explanation.ensures ∙ ap (λ t. old ++ explanation name bytes (refused r t)) thread in
    let about = refusal_names p bytes r.rule r.thread r.place r.detail in
    let second : c.add_names.new.text ≡ old ++ (told ++ about) = c.in_ok-add_names.ensures ∙ ap (λ s. s ++ about) first ∙ append_assoc old told about in
    on_ok_weaker c.add_asked.result
    (λ is. is ∙ ap (λ s. s ++ question) second ∙ append_assoc old (told ++ about) question ∙ ap (λ s. old ++ s) (append_assoc told about question)) c.add_asked.ensures
