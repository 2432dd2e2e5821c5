use Rattle.std.proofs.Common.{◌<◌, ◌∙◌, length, map, refl, sym, arith}
use Rattle.typing_rules.specs.Keeping.{view_searched}
use Rattle.annotate.specs.Inside.Choosing.{chosen_at}
use Rattle.annotate.specs.Inside.Searches.{found_at, opens, renumbered}
use Rattle.annotate.proofs.SearchedLaws.{found_split, joined_all, joined_more, opens_split}
use Rattle.annotate.proofs.choosing.add_each.Goals as goal

pub loop-one-preserved : goal.loop-one-preserved
loop-one-preserved c =
    let numbers = c.args.numbers.now in
    let xs = c.args.searched.now in
    let i = c.loop-one.one-index in
    let inside : i < length xs = omega (arith, c.loop-one-test.true) in
    record {
      chosen = λ place.
          joined_more (λ ss. map (renumbered numbers) (found_at (map view_searched ss) place)) (found_split numbers place) xs i c.one-item.result
          (chosen_at c.loop-one.chosen place) _ inside (sym c.one-item.is) (c.in_ok-add.ensures.chosen place)
          ∙ c.loop-one.invariant.chosen place;
      unproved =
          joined_more (λ ss. opens c.args.t (map view_searched ss)) (opens_split c.args.t) xs i c.one-item.result c.loop-one.unproved _ inside (sym c.one-item.is)
          c.in_ok-add.ensures.unproved
          ∙ c.loop-one.invariant.unproved;
    }

pub returns-clause-chosen : goal.returns-clause-chosen
returns-clause-chosen c place =
    let numbers = c.args.numbers.now in
    joined_all (λ ss. map (renumbered numbers) (found_at (map view_searched ss) place)) refl c.args.searched.now c.loop-one.one-index
    (chosen_at c.loop-one.chosen place) _ c.loop-one-test.false (c.loop-one.invariant.chosen place)

pub returns-clause-unproved : goal.returns-clause-unproved
returns-clause-unproved c =
    joined_all (λ ss. opens c.args.t (map view_searched ss)) refl c.args.searched.now c.loop-one.one-index c.loop-one.unproved _ c.loop-one-test.false c.loop-one.invariant.unproved
