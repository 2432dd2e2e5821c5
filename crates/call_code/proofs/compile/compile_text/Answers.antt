use Rattle.std.proofs.Common.{◌≡◌, Err, sym, subst, rules}
use Rattle.cov_ast.specs.View as view
use Rattle.call_code.proofs.CodeLaws.{by_code, gets_rejected}
use Rattle.call_code.specs.Codes.{Compiles, RepliesListing}
use Rattle.call_inputs.specs.Rejections.{UnlessRejected}
use Rattle.call_judge.specs.Check.{rejection}
use Rattle.call_reports.specs.AnswerViews.{Gets}
use Rattle.risc_machine.specs.Faults.{AreGood}
use Rattle.call_code.proofs.compile.compile_text.Goals as goal

pub returns-in_err-coded : goal.returns-in_err-coded
returns-in_err-coded c =
    let p = view.parsed c.args.parsed in
    let same : c.from_residual.result ≡ Err c.in_err-coded.field-0.0 = search rules in
    subst (Gets (UnlessRejected (rejection p) (Compiles p))) (sym same)
    (gets_rejected (rejection p) (Compiles p) c.in_err-coded.field-0.0 c.in_err-coded.ensures.coded)

pub listed-requires : goal.listed-requires
listed-requires c =
    let made = c.in_ok-coded.ensures.coded.good in
    subst AreGood (sym made.code.is) (c.compiled_is_code.ensures (view.program c.in_ok-coded.coded.program) made.formed)

pub returns : goal.returns
returns c =
    by_code (view.parsed c.args.parsed) c.in_ok-coded.coded c.in_ok-coded.ensures.coded (λ q d. RepliesListing d) c.listed.result c.listed.ensures
