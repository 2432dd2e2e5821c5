use Rattle.std.proofs.Common.{◌≡◌, ◌++◌, ◌∙◌, ap, map}
use Rattle.std.proofs.lemmas.Result.{IfOk-weaker}
use Rattle.annotate.specs.Annotated.{first_refused, unproved}
use Rattle.annotate.specs.AnnotatedText.{annotated_text}
use Rattle.call_reports.specs.declared.answers.Status.TheVariants as s
use Rattle.cert_search.specs.declared.finder.TheConstants.{MOST_DEPTH}
use Rattle.cov_ast.specs.View as view
use Rattle.cov_print.specs.Spelling.{spelling}
use Rattle.deeper_text.specs.DeeperText.{deeper_text}
use Rattle.policy_class.specs.Resolved.{resolved}
use Rattle.explain.specs.SuggestedTexts.{closing, status_by}
use Rattle.explain.proofs.suggested.tell_searched.Goals as goal

pub returns : goal.returns
returns c =
    let p = view.parsed c.args.parsed in
    let outcome = c.in_ok-outcome.outcome in
    let spelled : outcome.spelled ≡ spelling (annotated_text MOST_DEPTH (deeper_text p)) = c.in_ok-outcome.ensures.spelled in
    let first : outcome.first ≡ first_refused MOST_DEPTH (resolved (deeper_text p)) = c.in_ok-outcome.ensures.first in
    let left : outcome.unproved ≡ unproved MOST_DEPTH (resolved (deeper_text p)) = c.in_ok-outcome.ensures.unproved in
    let threads : map view.thread c.as_slice.result.now ≡ (resolved p).threads = ap (map view.thread) c.as_slice.ensures ∙ ap (λ q. q.threads) c.requires.resolved in
    IfOk-weaker c.add_outcome.result _ _
    (λ status h. (
      h.0 ∙ ap (λ o. status_by o s.Done) first,
      h.1 ∙ (λ i. c.args.text.now ++ (spelled i ++ closing (threads i) (first i) (left i))),
    )) c.add_outcome.ensures
