use Rattle.std.proofs.lemmas.List.{append_assoc, map_more}
use Rattle.cov_expr.specs.View.{term}
use Rattle.entail_range.specs.Range.{lent}
use Rattle.entail_range.proofs.index.buckets_of.Goals as goal

pub loop-h-preserved : goal.loop-h-preserved
loop-h-preserved c =
    rw (map_more term c.args.given.now c.loop-h.h-index c.h-item.result c.loop-h-test.true, ← c.h-item.is)
    (c.in_ok-put.ensures _ c.loop-h.invariant)

pub loop-h-2-preserved : goal.loop-h-2-preserved
loop-h-2-preserved c =
    rw (map_more lent c.args.more.now c.loop-h-2.h-index c.h-item-in-loop-h-2.result c.loop-h-2-test.true, ← c.h-item-in-loop-h-2.is, ← append_assoc)
    (c.in_ok-put-2.ensures _ c.loop-h-2.invariant)
