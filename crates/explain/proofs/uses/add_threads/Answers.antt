use Rattle.std.proofs.Common.{◌+◌, drop, map, flat_map}
use Rattle.cov_ast.specs.View as view
use Rattle.explain.specs.Inside.StatementWalks.{block_reads, block_writes}
use Rattle.statement_parts.proofs.AssignedLaws.{adding_goes_on}
use Rattle.explain.proofs.Marking.{thread_next}
use Rattle.explain.proofs.uses.add_threads.Goals as goal

pub loop-thread-preserved : goal.loop-thread-preserved
loop-thread-preserved c =
    let ts = c.args.threads.now in
    let i = c.loop-thread.thread-index in
    let t = c.thread-item.result in
    record {
      read = adding_goes_on c.args.read.now c.loop-thread.read c.add_block.new.read (flat_map (λ u. block_reads u.body) (map view.thread ts)) (block_reads (view.block t.body))
          (flat_map (λ u. block_reads u.body) (map view.thread (drop (i + 1) ts))) (flat_map (λ u. block_reads u.body) (map view.thread (drop i ts)))
          c.loop-thread.invariant.read (thread_next (λ u. block_reads u.body) ts i t c.loop-thread-test.true c.thread-item.is) (rw c.as_slice.ensures at c.add_block.ensures);
      written = adding_goes_on c.args.written.now c.loop-thread.written c.add_assigned.new.stored (flat_map (λ u. block_writes u.body) (map view.thread ts)) (block_writes (view.block t.body))
          (flat_map (λ u. block_writes u.body) (map view.thread (drop (i + 1) ts))) (flat_map (λ u. block_writes u.body) (map view.thread (drop i ts)))
          c.loop-thread.invariant.written (thread_next (λ u. block_writes u.body) ts i t c.loop-thread-test.true c.thread-item.is) (rw c.as_slice-in-loop-thread.ensures at c.add_assigned.ensures);
    }
