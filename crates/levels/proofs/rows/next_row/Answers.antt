use Rattle.std.proofs.Common.{◌≡◌, ◌∙◌, ◌==◌, ◌||◌, sym, map, length, ◌++◌, ◌∷◌, [], zero-add}
use Rattle.std.specs.List.{list_any, range_with_len}
use Rattle.std.proofs.lemmas.List.FromFn.{map-range_with_len_more}
use Rattle.levels.specs.Order.{is_in_row}
use Rattle.levels.proofs.rows.next_row.Goals as goal

pub loop-a-preserved : goal.loop-a-preserved
loop-a-preserved c =
    let kept : c.loop-a.marks ≡ map (λ a. a == length c.args.rows.now || list_any (is_in_row c.args.rows.now a) c.args.lower.now) (range_with_len 0 c.loop-a.a) = c.loop-a.invariant in
    c.in_ok-push.ensures.ok ∙ (λ i. kept i ++ c.is_below_next.ensures i ∷ [])
    ∙ sym (map-range_with_len_more (λ a. a == length c.args.rows.now || list_any (is_in_row c.args.rows.now a) c.args.lower.now) 0 c.loop-a.a c.loop-a.a (zero-add c.loop-a.a))
