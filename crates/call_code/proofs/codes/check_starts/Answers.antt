use Rattle.std.proofs.Common.{sym, ap}
use Rattle.cov_ast.specs.View as view
use Rattle.call_inputs.specs.Rejections.{unfit}
use Rattle.call_judge.specs.Starts.{unfit_by}
use Rattle.call_reports.specs.Differences.{bad_name}
use Rattle.call_reports.specs.Replies.{bad_starts}
use Rattle.call_code.proofs.codes.check_starts.Goals as goal

pub returns-in_ok-bad_name-in-Some-clause-rejection : goal.returns-in_ok-bad_name-in-Some-clause-rejection
returns-in_ok-bad_name-in-Some-clause-rejection c =
    let p = view.program c.args.program.now in
    (unfit (bad_name p c.in-Some.found), ap (unfit_by p) (sym c.in-Some.ensures.first), ap bad_starts c.in_ok-bad_name-in-Some.ensures)
