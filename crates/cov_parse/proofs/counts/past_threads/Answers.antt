use Rattle.std.proofs.Common.{◌∙◌, sym, ap, arith, length, map}
use Rattle.cov_text.specs.declared.fault.Counted.TheVariants.{Threads}
use Rattle.cov_text.specs.Limits.{past, past_threads}
use Rattle.cov_read.specs.DeclViews as views
use Rattle.cov_parse.proofs.LimitLaws.{past_none, past_some}
use Rattle.cov_parse.proofs.counts.past_threads.Goals as goal

pub returns-then-threads-le-MOST_THREADS : goal.returns-then-threads-le-MOST_THREADS
unfolding past_threads
returns-then-threads-le-MOST_THREADS c =
    sym (past_none (λ v. v.name.1) views.thread 16 Threads c.args.program.now.threads (omega (arith, ap length c.as_slice-threads.ensures, c.if-threads-le-MOST_THREADS.true)))

pub returns : goal.returns
unfolding past_threads
returns c =
    sym (past_some (λ v. v.name.1) views.thread 16 Threads c.as_slice-threads.result.now c.index-threads-16.result c.if-threads-le-MOST_THREADS.false)
    ∙ ap (λ xs. past 16 Threads (map (λ v. v.name.1) (map views.thread xs))) c.as_slice-threads.ensures
