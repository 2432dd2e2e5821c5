use Rattle.std.proofs.Common.{◌≡◌, map}
use Rattle.cov_ast.specs.View as view
use Rattle.annotate.specs.Inside.Choosing.{chosen_at}
use Rattle.annotate.specs.Inside.Putting.{put_in_stmt}
use Rattle.annotate.proofs.PuttingLaws.{mixed}
use Rattle.annotate.proofs.put_in.+blocks.Given as goal

abbrev pub invariant-put_in_block-loop-i : goal.invariant-put_in_block-loop-i
invariant-put_in_block-loop-i l = record {
  unvisited : goal.unvisited-put_in_block-loop-i l;
  changed : mixed view.stmt (put_in_stmt (chosen_at l.chosen)) l.i l.body ≡ map (put_in_stmt (chosen_at l.chosen)) (map view.stmt l.initial.body);
}
