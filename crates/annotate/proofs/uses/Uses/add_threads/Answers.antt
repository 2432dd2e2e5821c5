use Rattle.std.proofs.Common.{arith, map, refl}
use Rattle.cov_ast.specs.View as view
use Rattle.annotate.specs.AnnotatedText.{parts_in_threads}
use Rattle.annotate.specs.Inside.Choosing.{chosen_in}
use Rattle.annotate.proofs.StatementUses.{parts_end, parts_go_on, threads_next}
use Rattle.annotate.proofs.uses.Uses.add_threads.Goals as goal

pub loop-t-preserved : goal.loop-t-preserved
loop-t-preserved c =
    parts_go_on _ _ _ _ _ _ _ c.loop-t.invariant
    (threads_next c.args.chosen.now c.args.threads.now c.loop-t.t c.index-chosen-t.result c.index-threads-t.result c.loop-t-test.true
    (omega (arith, c.requires, c.loop-t-test.true)) c.index-threads-t.is c.index-chosen-t.is) c.in_ok-add_thread.ensures

pub returns : goal.returns
returns c =
    parts_end (λ ts. parts_in_threads (chosen_in c.args.chosen.now) c.loop-t.t (map view.thread ts)) c.args.threads.now c.loop-t.t _ _ refl c.loop-t-test.false
    c.loop-t.invariant
