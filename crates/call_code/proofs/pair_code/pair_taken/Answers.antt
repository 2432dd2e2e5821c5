use Rattle.std.proofs.Common.{◌≡◌, ℕ, List, Err, sym, subst, rules}
use Rattle.cov_ast.specs.Plain.{plain}
use Rattle.cov_ast.specs.Syntax.{Program}
use Rattle.cov_ast.specs.View as view
use Rattle.cov_expr.specs.Words.{IsMemory, IsSchedule}
use Rattle.flow_model.specs.FirstDifference.{first_bad_start}
use Rattle.risc_machine.specs.declared.parts.Parts.{Parts}
use Rattle.call_code.proofs.CodeLaws.{by_code, gets_rejected}
use Rattle.call_code.specs.CodeRuns.{CodeRunsTogether, PairsCode}
use Rattle.replay_inputs.specs.InputViews.{IsRunOf}
use Rattle.replay_inputs.specs.InputViews as inputs
use Rattle.call_inputs.specs.Rejections.{UnlessRejected}
use Rattle.call_judge.specs.Check.{rejection}
use Rattle.call_judge.specs.Starts.{unfit_by, unfit_starts}
use Rattle.call_reports.specs.AnswerViews.{Gets}
use Rattle.call_reports.specs.Replies.{Reply}
use Rattle.call_code.proofs.pair_code.pair_taken.Goals as goal

pub returns-in_err-coded : goal.returns-in_err-coded
returns-in_err-coded c =
    let i = inputs.pair_input c.args.input in
    let next = UnlessRejected (unfit_starts i.program i.left i.right) (PairsCode i) in
    let same : c.from_residual.result ≡ Err c.in_err-coded.field-0.0 = search rules in
    subst (Gets (UnlessRejected (rejection i.program) next)) (sym same)
    (gets_rejected (rejection i.program) next c.in_err-coded.field-0.0 c.in_err-coded.ensures.coded)

pub returns : goal.returns
returns c =
    let i = inputs.pair_input c.args.input in
    let made = c.in_ok-coded.coded in
    let runs : Program → Parts → List ℕ → Reply → Type 0 = λ q d k.
    UnlessRejected (unfit_by q (first_bad_start (plain q) i.left i.right)) (CodeRunsTogether q d i.left i.right k) in
    by_code i.program made c.in_ok-coded.ensures.coded (λ q d. runs q d i.schedule) c.pair_coded.result
    (subst (λ k. Gets (runs (view.program made.program) made.code k) c.pair_coded.result) c.as_slice.ensures c.pair_coded.ensures)

pub pair_coded-requires-clause-left : goal.pair_coded-requires-clause-left
pair_coded-requires-clause-left c =
    let i = c.args.input in
    let made = c.in_ok-coded.ensures in
    subst (IsRunOf c.in_ok-coded.coded.program i.left) (sym c.as_slice.ensures) (record {
      fits = subst (λ n. IsMemory n i.left) (sym made.variables) c.requires.left;
      threads = subst (λ n. IsSchedule n i.entries) (sym made.threads) c.requires.threads;
      few = c.requires.few;
    })

pub pair_coded-requires-clause-right : goal.pair_coded-requires-clause-right
pair_coded-requires-clause-right c =
    let i = c.args.input in
    let made = c.in_ok-coded.ensures in
    subst (IsRunOf c.in_ok-coded.coded.program i.right) (sym c.as_slice.ensures) (record {
      fits = subst (λ n. IsMemory n i.right) (sym made.variables) c.requires.right;
      threads = subst (λ n. IsSchedule n i.entries) (sym made.threads) c.requires.threads;
      few = c.requires.few;
    })
