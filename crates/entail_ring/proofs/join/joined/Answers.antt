use Rattle.std.proofs.Common.{map, take, sym, subst, arith}
use Rattle.std.specs.List.Sorted.{IsPermutation, IsSortedBy}
use Rattle.entail_ring.specs.Inside.{comes_before}
use Rattle.entail_ring.specs.Polys.{IsPoly}
use Rattle.entail_ring.proofs.Adding.{all_made, next_made, next_up_to}
use Rattle.entail_ring.proofs.Joining.{joined_poly}
use Rattle.entail_ring.proofs.join.joined.Goals as goal

pub add-requires-clause-poly : goal.add-requires-clause-poly
add-requires-clause-poly c = subst IsPoly (sym c.loop-t.invariant) (joined_poly (take c.loop-t.t-index (map (λ t. t.term.now) c.deref-t-items.result.now)))

pub add-requires-clause-last : goal.add-requires-clause-last
add-requires-clause-last c =
    next_up_to (λ t. t.term.now) c.deref-t-items.result.now c.loop-t.t-index c.t-item.result c.loop-t.made.items
    (subst (λ rs. IsSortedBy comes_before (map (λ t. t.term.now) rs)) (sym c.deref-t-items.ensures.value) c.in_ok-rising.ensures.order) (omega arith) c.t-item.is c.loop-t.invariant

pub loop-t-preserved : goal.loop-t-preserved
loop-t-preserved c =
    next_made (λ t. t.term.now) c.deref-t-items.result.now c.loop-t.t-index c.t-item.result c.loop-t.made.items c.add.new.made.items (omega arith) c.t-item.is c.loop-t.invariant
    c.in_ok-add.ensures

pub returns : goal.returns
returns c =
    all_made (λ t. t.term.now) c.args.terms.now c.deref-t-items.result.now c.loop-t.t-index c.loop-t.made.items
    (subst (λ rs. IsPermutation c.args.terms.now (map (λ t. t.term.now) rs)) (sym c.deref-t-items.ensures.value) c.in_ok-rising.ensures.terms) (omega arith) c.loop-t.invariant
