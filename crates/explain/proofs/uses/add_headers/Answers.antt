use Rattle.std.proofs.Common.{◌+◌, ◌++◌, drop, map, flat_map, refl, ap, ◌∙◌}
use Rattle.cov_ast.specs.Tables.{with_all}
use Rattle.cov_ast.specs.View as view
use Rattle.statement_parts.proofs.AssignedLaws.{added_of, adding_goes_on}
use Rattle.explain.proofs.Marking.{thread_next}
use Rattle.explain.proofs.uses.add_headers.Goals as goal

pub loop-thread-preserved : goal.loop-thread-preserved
loop-thread-preserved c =
    let ts = c.args.threads.now in
    let i = c.loop-thread.thread-index in
    let t = c.thread-item.result in
    let nowrite = t.modes.assume_nowrite in
    let hide = t.modes.assume_hide in
    record {
      read = adding_goes_on c.args.read.now c.loop-thread.read c.insert_all.new.self (flat_map (λ u. u.modes.assume_hide) (map view.thread ts)) hide
          (flat_map (λ u. u.modes.assume_hide) (map view.thread (drop (i + 1) ts))) (flat_map (λ u. u.modes.assume_hide) (map view.thread (drop i ts)))
          c.loop-thread.invariant.read (thread_next (λ u. u.modes.assume_hide) ts i t c.loop-thread-test.true c.thread-item.is)
          (c.insert_all.ensures ∙ ap (with_all c.loop-thread.read) c.as_slice.ensures);
      written = adding_goes_on c.args.written.now c.loop-thread.written c.insert_all-in-loop-thread-2.new.self
          (flat_map (λ u. u.modes.assume_nowrite ++ u.modes.assume_hide) (map view.thread ts)) (nowrite ++ hide)
          (flat_map (λ u. u.modes.assume_nowrite ++ u.modes.assume_hide) (map view.thread (drop (i + 1) ts)))
          (flat_map (λ u. u.modes.assume_nowrite ++ u.modes.assume_hide) (map view.thread (drop i ts)))
          c.loop-thread.invariant.written
          (thread_next (λ u. u.modes.assume_nowrite ++ u.modes.assume_hide) ts i t c.loop-thread-test.true c.thread-item.is)
          (added_of c.loop-thread.written c.insert_all-in-loop-thread.new.self c.insert_all-in-loop-thread-2.new.self (nowrite ++ hide) nowrite hide refl
          (c.insert_all-in-loop-thread.ensures ∙ ap (with_all c.loop-thread.written) c.as_slice-in-loop-thread.ensures)
          (c.insert_all-in-loop-thread-2.ensures ∙ ap (with_all c.insert_all-in-loop-thread.new.self) c.as_slice-in-loop-thread-2.ensures));
    }
