use Rattle.std.proofs.Common.{arith}
use Rattle.std.proofs.lemmas.Grind.{common_steps}
use Rattle.code_text.specs.Inside.SpelledLines.{IsOfWords}
use Rattle.code_text.proofs.Every.{all_more}
use Rattle.code_text.proofs.text.add_threads.Goals as goal

pub loop-thread-preserved : goal.loop-thread-preserved
loop-thread-preserved c = record {
  text = grind (arith, common_steps);
  words = all_more IsOfWords c.args.threads.now c.loop-thread.thread-index c.thread-item.result c.loop-thread-test.true c.thread-item.is c.loop-thread.invariant.words (c.in_ok-add_thread.ensures.words.0, rw c.as_slice.ensures at c.in_ok-add_thread.ensures.words.1);
}
