use Rattle.std.proofs.Common.{ap}
use Rattle.cov_ast.specs.View as view
use Rattle.call_verdicts.specs.Swap.{misfit_by}
use Rattle.call_verdicts.proofs.SwapLaws.{misfit_told}
use Rattle.call_verdicts.proofs.swap.bound_threads.Goals as goal

pub returns-in-Ok-clause-binds : goal.returns-in-Ok-clause-binds
returns-in-Ok-clause-binds c = (ap (misfit_by c.args.replacing.now) c.in-Ok.ensures.binds.0, c.in-Ok.ensures.binds.1)

pub returns-in-Err-clause-binds : goal.returns-in-Err-clause-binds
returns-in-Err-clause-binds c =
    misfit_told c.args.replacing.now (view.program c.args.program.now) (view.parsed c.args.threads) c.in-Err.fault c.shown.result c.unread.result
    c.in-Err.ensures.binds c.shown.ensures c.unread.ensures
