use Rattle.std.proofs.Common.{◌∙◌, map, subst, arith, rules}
use Rattle.std.proofs.lemmas.Cmp.{nat_list_cmp_total}
use Rattle.std.proofs.lemmas.Fn.{always_returns_same}
use Rattle.std.proofs.lemmas.List.{take_all}
use Rattle.std.proofs.lemmas.List.Sorted.{IsPermutation-map, ranks_by}
use Rattle.std.specs.List.Sorted.{IsPermutation}
use Rattle.entail_ring.specs.Inside.{comes_before}
use Rattle.entail_ring.proofs.Adding.{sorted_map}
use Rattle.entail_ring.proofs.join.in_order.Goals as goal

pub returns-clause-terms : goal.returns-clause-terms
returns-clause-terms c =
    subst (λ ts. IsPermutation ts (map (λ t. t.term.now) c.sort_by.new.self.items)) (c.loop-t.invariant ∙ take_all _ _ (omega arith))
    (IsPermutation-map (λ t. t.term.now) _ _ c.in_ok-sort_by.ensures.permutation)

pub returns-clause-order : goal.returns-clause-order
returns-clause-order c =
    sorted_map (λ t. t.term.now) _
    (c.in_ok-sort_by.ensures.sorted (λ t u. comes_before t.term.now u.term.now) (ranks_by nat_list_cmp_total (λ t. t.term.now.atoms))
    (always_returns_same _ _ _ (λ a r f k. search rules)))
