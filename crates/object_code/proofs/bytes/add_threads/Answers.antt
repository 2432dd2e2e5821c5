use Rattle.std.proofs.Common.{subst, arith}
use Rattle.std.proofs.lemmas.Grind.{common_steps}
use Rattle.object_code.specs.Inside.Given.{IsOfWords}
use Rattle.std.proofs.lemmas.List.Elements.{All-more}
use Rattle.object_code.proofs.bytes.add_threads.Goals as goal

pub loop-thread-preserved : goal.loop-thread-preserved
loop-thread-preserved c = record {
  bytes = grind (arith, common_steps);
  words = All-more IsOfWords c.args.threads.now c.loop-thread.thread-index c.thread-item.result c.loop-thread-test.true c.loop-thread.invariant.words (subst IsOfWords c.thread-item.is (c.in_ok-add_thread.ensures.words.0, rw c.as_slice.ensures at c.in_ok-add_thread.ensures.words.1));
}
