use Rattle.std.proofs.Common.{arith}
use Rattle.std.proofs.lemmas.List.{length-map}
use Rattle.entail_range.specs.Inside.Index.{terms}
use Rattle.entail_range.specs.Range.{lent}
use Rattle.entail_range.proofs.Buckets.{empty_push, finds_none}
use Rattle.entail_range.proofs.index.empty.Goals as goal

pub slots-preserved : goal.slots-preserved
slots-preserved c =
    rw c.in_ok-push.ensures.items
    (empty_push lent c.slots.buckets.items c.new.result c.new.ensures c.slots.invariant)

pub returns : goal.returns
returns c =
    let items = c.slots.buckets.items in
    finds_none (terms items) (rw length-map (omega (arith, c.slots.buckets.ok.0))) c.slots.invariant
