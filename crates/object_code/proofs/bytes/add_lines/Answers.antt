use Rattle.std.proofs.Common.{arith}
use Rattle.std.proofs.lemmas.Grind.{common_steps}
use Rattle.std.proofs.lemmas.List.Elements.{All-more}
use Rattle.code_text.specs.Listing.{HasWords}
use Rattle.object_code.proofs.bytes.add_lines.Goals as goal

pub loop-line-preserved : goal.loop-line-preserved
loop-line-preserved c = record {
  bytes = grind (arith, common_steps);
  words = All-more (λ l. HasWords l.instr) c.args.lines.now c.loop-line.line-index _ c.loop-line-test.true c.loop-line.invariant.words c.in_ok-add_line.ensures.words;
}
