use Rattle.std.proofs.Common.{arith}
use Rattle.entail_range.specs.Range.{lent}
use Rattle.entail_range.proofs.Buckets.{put_is}
use Rattle.entail_range.proofs.index.put_at.Goals as goal

pub returns-in_ok-push-clause-ok : goal.returns-in_ok-push-clause-ok
returns-in_ok-push-clause-ok c =
    let within = rw c.in-Some.is at c.requires in
    rw c.in-Some.is
    (put_is lent c.args.buckets.now.items c.in-Some.i c.index_mut.result.now c.push.new.self c.args.h
    (omega arith) c.index_mut.ensures.value c.in_ok-push.ensures.ok)
