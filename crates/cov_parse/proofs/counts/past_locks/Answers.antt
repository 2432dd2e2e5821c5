use Rattle.std.proofs.Common.{◌∙◌, sym, ap, arith, length, map}
use Rattle.cov_text.specs.declared.fault.Counted.TheVariants.{Locks}
use Rattle.cov_text.specs.Limits.{past, past_locks}
use Rattle.cov_read.specs.DeclViews as views
use Rattle.cov_parse.proofs.LimitLaws.{past_none, past_some}
use Rattle.cov_parse.proofs.counts.past_locks.Goals as goal

pub returns-then-locks-le-MOST_LOCKS : goal.returns-then-locks-le-MOST_LOCKS
unfolding past_locks
returns-then-locks-le-MOST_LOCKS c =
    sym (past_none (λ v. v.name.1) views.lock 64 Locks c.args.program.now.locks (omega (arith, ap length c.as_slice-locks.ensures, c.if-locks-le-MOST_LOCKS.true)))

pub returns : goal.returns
unfolding past_locks
returns c =
    sym (past_some (λ v. v.name.1) views.lock 64 Locks c.as_slice-locks.result.now c.index-locks-64.result c.if-locks-le-MOST_LOCKS.false)
    ∙ ap (λ xs. past 64 Locks (map (λ v. v.name.1) (map views.lock xs))) c.as_slice-locks.ensures
