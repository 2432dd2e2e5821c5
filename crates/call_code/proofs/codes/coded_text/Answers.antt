use Rattle.std.proofs.Common.{◌≡◌, Err, sym, subst, rules}
use Rattle.std.specs.Prelude.{MatchResult}
use Rattle.cov_ast.specs.View as view
use Rattle.call_code.proofs.CodeLaws.{as_many_threads, as_many_variables}
use Rattle.call_code.specs.Inside.{IsOfText}
use Rattle.call_judge.proofs.CheckLaws.{none_rejects, program_rejected}
use Rattle.call_judge.specs.Inside.{IsProgramRejected, IsRejected}
use Rattle.call_reports.proofs.AnswerLaws.{stops_onward}
use Rattle.call_reports.specs.AnswerViews.{Stops}
use Rattle.call_code.proofs.codes.coded_text.Goals as goal

pub returns-in_err-made-clause-coded : goal.returns-in_err-made-clause-coded
returns-in_err-made-clause-coded c =
    let p = view.parsed c.args.parsed in
    let program = view.program c.in_ok-program.program in
    let named = c.in_ok-program.ensures.named in
    let same : c.from_residual-in_err-made.result ≡ Err c.in_err-made.field-0.0 = search rules in
    subst (λ r. MatchResult r (IsOfText p) (Stops (IsRejected p))) (sym same)
    (stops_onward (IsProgramRejected program) (IsRejected p) c.in_err-made.field-0.0 (program_rejected p program named.is named.held) c.in_err-made.ensures)

pub returns-clause-coded : goal.returns-clause-coded
returns-clause-coded c =
    let p = view.parsed c.args.parsed in
    let named = c.in_ok-program.ensures.named in
    record {
      is = named.is;
      accepted = none_rejects p (view.program c.in_ok-program.program) named.is named.held c.in_ok-made.ensures.holds;
      good = record { formed = named.formed; code = c.in_ok-made.ensures };
    }

pub returns-clause-variables : goal.returns-clause-variables
returns-clause-variables c = as_many_variables c.args.parsed c.in_ok-program.program c.in_ok-program.ensures.named.is

pub returns-clause-threads : goal.returns-clause-threads
returns-clause-threads c = as_many_threads c.args.parsed c.in_ok-program.program c.in_ok-program.ensures.named.is
