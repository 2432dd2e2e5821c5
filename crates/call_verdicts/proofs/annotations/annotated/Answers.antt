use Rattle.std.proofs.Common.{◌≡◌, None, IsTrue, ap, map, subst, ◌∙◌}
use Rattle.call_judge.specs.Check.{name_rejection}
use Rattle.call_reports.specs.AnswerViews.{seen}
use Rattle.call_verdicts.proofs.AnnotationsLaws.{annotated_judged}
use Rattle.call_verdicts.proofs.annotations.annotated.Goals as goal
use Rattle.call_verdicts.specs.Inside.{reply_by}
use Rattle.cov_ast.proofs.ObligationLaws.{none_refused}
use Rattle.cov_ast.specs.Obligations.{all_hold}
use Rattle.cov_ast.specs.View as view
use Rattle.policy_class.specs.Resolved.{name_obligations, resolved}

pub annotate-requires-clause-names : goal.annotate-requires-clause-names
annotate-requires-clause-names c =
    subst (λ q. IsTrue (all_hold (name_obligations q))) c.in_ok-again.ensures
    (none_refused (name_obligations (view.parsed c.in_ok-again.again)) c.in_ok-program.ensures.named.held)

pub returns : goal.returns
returns c =
    let p = view.parsed c.args.parsed in
    let same = c.in_ok-again.ensures in
    let program = c.in_ok-program.ensures in
    let outcome = c.in_ok-outcome.outcome in
    let reply = seen c.in_ok-answer_by.field-0 in
    annotated_judged c.args.depth p (subst (λ q. name_rejection q ≡ None) same program.unnamed) c.in_ok-declared.ensures.rejection reply
    (view.program c.in_ok-program.program) outcome.spelled outcome.unproved outcome.first (program.named.is ∙ ap resolved same)
    c.in_ok-outcome.ensures.spelled c.in_ok-outcome.ensures.unproved c.in_ok-outcome.ensures.first
    (subst (λ threads. reply ≡ reply_by (map view.thread threads) outcome.spelled outcome.unproved outcome.first) c.as_slice.ensures
    c.in_ok-answer_by.ensures)
