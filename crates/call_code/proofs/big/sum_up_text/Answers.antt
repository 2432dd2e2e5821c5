use Rattle.std.proofs.Common.{◌≡◌, Err, sym, subst, rules}
use Rattle.cov_ast.specs.View as view
use Rattle.cov_expr.specs.Words.{IsSchedule}
use Rattle.call_code.proofs.BigLaws.{big_by_code}
use Rattle.call_code.proofs.CodeLaws.{gets_rejected}
use Rattle.call_code.specs.BigReplies.{SumsUp, starts_with_secrets}
use Rattle.call_inputs.specs.Rejections.{UnlessRejected}
use Rattle.call_judge.specs.Check.{rejection}
use Rattle.call_judge.specs.Starts.{unfit_starts}
use Rattle.call_reports.specs.AnswerViews.{Gets}
use Rattle.call_code.proofs.big.sum_up_text.Goals as goal

pub returns-in_err-coded : goal.returns-in_err-coded
returns-in_err-coded c =
    let i = starts_with_secrets (view.parsed c.args.parsed) c.args.schedule.now in
    let next = UnlessRejected (unfit_starts i.program i.left i.right) (SumsUp c.args.rounds i) in
    let same : c.from_residual.result ≡ Err c.in_err-coded.field-0.0 = search rules in
    subst (Gets (UnlessRejected (rejection i.program) next)) (sym same)
    (gets_rejected (rejection i.program) next c.in_err-coded.field-0.0 c.in_err-coded.ensures.coded)

pub returns : goal.returns
returns c =
    big_by_code c.args.rounds c.args.schedule.now (view.parsed c.args.parsed) c.in_ok-coded.coded c.in_ok-coded.ensures.coded c.sum_up.result c.sum_up.ensures

pub sum_up-requires-clause-threads : goal.sum_up-requires-clause-threads
sum_up-requires-clause-threads c = subst (λ n. IsSchedule n c.args.schedule.now) (sym c.in_ok-coded.ensures.threads) c.requires.threads
