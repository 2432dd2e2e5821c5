use Rattle.std.proofs.Common.{◌≡◌, length, map, option_map, ap, sym, ◌∙◌, rules}
use Rattle.std.proofs.lemmas.List.{length-map}
use Rattle.cov_expr.specs.View.{term}
use Rattle.entail_range.specs.Inside.Index.{terms}
use Rattle.entail_range.specs.Inside.Slots.{slot}
use Rattle.entail_range.specs.Range.{lent}
use Rattle.entail_range.proofs.Buckets.{gains_one, gains_two, ok_gains}
use Rattle.entail_range.proofs.index.put.Goals as goal

pub returns-then-eq : goal.returns-then-eq
returns-then-eq c =
    let buckets = c.args.buckets.now in
    let count : length (terms buckets.items) ≡ c.len.result = length-map buckets.items (map lent) ∙ sym buckets.ok.0 ∙ sym c.len.ensures in
    let count-2 : length (terms buckets.items) ≡ c.len-2.result = length-map buckets.items (map lent) ∙ sym buckets.ok.0 ∙ sym c.len-2.ensures in
    rw c.in_ok-put_at.ensures.ok
    (gains_one (terms buckets.items) (term c.args.h.now) c.slot_of-left.result c.slot_of-right.result
    (rw count (c.slot_of-left.ensures.slot ∙ ap (option_map (slot c.len.result)) c.left_side.ensures))
    (rw count-2 (c.slot_of-right.ensures.slot ∙ ap (option_map (slot c.len-2.result)) c.right_side.ensures))
    (search rules))

pub returns : goal.returns
returns c =
    let buckets = c.args.buckets.now in
    let count : length (terms buckets.items) ≡ c.len.result = length-map buckets.items (map lent) ∙ sym buckets.ok.0 ∙ sym c.len.ensures in
    let count-2 : length (terms buckets.items) ≡ c.len-2.result = length-map buckets.items (map lent) ∙ sym buckets.ok.0 ∙ sym c.len-2.ensures in
    ok_gains c.put_at-2.result (terms buckets.items) _ _ (term c.args.h.now)
    (gains_two (terms buckets.items) (term c.args.h.now) c.slot_of-left.result c.slot_of-right.result
    (rw count (c.slot_of-left.ensures.slot ∙ ap (option_map (slot c.len.result)) c.left_side.ensures))
    (rw count-2 (c.slot_of-right.ensures.slot ∙ ap (option_map (slot c.len-2.result)) c.right_side.ensures))
    (search rules))
    (rw (← c.in_ok-put_at.ensures.ok) c.put_at-2.ensures.ok)
