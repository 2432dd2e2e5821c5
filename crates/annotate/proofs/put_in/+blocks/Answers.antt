use Rattle.std.proofs.Common.{◌≢◌, ◌∙◌, ap, arith, length-set, get_or-set_other, map}
use Rattle.cov_ast.specs.View as view
use Rattle.annotate.specs.Inside.Choosing.{chosen_at}
use Rattle.annotate.specs.Inside.Putting.{put_in_stmt}
use Rattle.annotate.proofs.PuttingLaws.{block_put_in, changed_all, changed_more}
use Rattle.annotate.proofs.put_in.+blocks.Goals as goal

pub put_in_block-loop-i-preserved : goal.put_in_block-loop-i-preserved
put_in_block-loop-i-preserved t c = record {
  unvisited = (
    length-set c.loop-i.body c.loop-i.i c.put_in_stmt.new.stmt ∙ c.loop-i.invariant.unvisited.0,
    λ k d h.
        get_or-set_other c.loop-i.body c.loop-i.i k c.put_in_stmt.new.stmt d (let other : k ≢ c.loop-i.i = omega (arith, h) in other)
        ∙ c.loop-i.invariant.unvisited.1 k d (omega (arith, h)),
  );
  changed =
      changed_more view.stmt (put_in_stmt (chosen_at c.args.chosen.now)) c.args.body.now c.loop-i.body c.loop-i.i c.index-body-i.result c.put_in_stmt.new.stmt
      (omega (arith, c.loop-i.auto.body, c.loop-i-test.true)) c.in_ok-put_in_stmt.ensures c.loop-i.invariant.changed;
}

pub put_in_block-returns : goal.put_in_block-returns
put_in_block-returns t c =
    ap view.block_of
    (changed_all view.stmt (put_in_stmt (chosen_at c.args.chosen.now)) c.args.body.now c.loop-i.body c.loop-i.i
    (omega (arith, c.loop-i.auto.body, c.loop-i-test.false)) c.loop-i.invariant.changed)
    ∙ block_put_in (chosen_at c.args.chosen.now) (map view.stmt c.args.body.now)
