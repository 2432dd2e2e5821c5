use Rattle.std.proofs.Common.{◌∙◌, [], ap, sym, get_or, length, replicate, false}
use Rattle.std.proofs.lemmas.List.{length-replicate}
use Rattle.cov_ast.specs.Tables.{has}
use Rattle.mode_state.specs.Inside.{marked_if, set_at}
use Rattle.mode_state.proofs.HeldLaws.{set_read}
use Rattle.mode_state.proofs.TurnedLaws.{row_none, row_more, rows_all}
use Rattle.mode_state.proofs.sets.turned_sets.Goals as goal

pub loop-l-init : goal.loop-l-init
loop-l-init c =
    let sets = c.args.sets.now in
    let rows = c.in_ok-rows.ensures in
    (ap length rows ∙ length-replicate c.args.bound (replicate (length sets) false), λ x lt. ap (λ r. get_or r x []) rows ∙ row_none sets c.args.bound x lt)

pub loop-l-preserved : goal.loop-l-preserved
loop-l-preserved c =
    let sets = c.args.sets.now in
    let l = c.loop-l.l in
    let set = c.index-sets-l.result in (
      c.mark_all.ensures.length ∙ c.loop-l.invariant.0,
      λ x lt.
          c.mark_all.ensures.marked x ∙ (λ i. marked_if (sym (set_read sets l set x c.loop-l-test.true c.index-sets-l.is) i) (c.loop-l.invariant.1 x lt i) l)
          ∙ row_more sets x l c.loop-l-test.true (has (set_at sets l) x) (λ i. has (set_at sets l) x),
    )

pub returns : goal.returns
returns c = rows_all c.loop-l.rows c.args.sets.now c.args.bound c.loop-l.l c.loop-l.invariant.0 c.loop-l-test.false c.loop-l.invariant.1
