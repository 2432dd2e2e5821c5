use Rattle.std.proofs.Common.{◌<◌, ◌≡◌, ◌++◌, ◌∙◌, ◌∷◌, [], ℕ, List, ap, arith, length, map, refl, sym}
use Rattle.std.proofs.lemmas.List.{map-append}
use Rattle.annotate.proofs.SearchedLaws.{joined_all, joined_more}
use Rattle.annotate.specs.Inside.Choosing.{chosen_at}
use Rattle.annotate.specs.Inside.Searches.{renumbered}
use Rattle.deeper_text.proofs.FoundRange.{chosen_split}
use Rattle.deeper_text.specs.DeeperText as spec
use Rattle.deeper_text.specs.Inside.{found}
use Rattle.deeper_text.specs.declared.found.Found.{Found}
use Rattle.deeper_text.proofs.chosen.choose_in.Goals as goal

split : (numbers : List ℕ × ℕ) (t place : ℕ) (f : Found) (fs : List Found)
    → map (renumbered numbers) (spec.chosen_among (map found (f ∷ fs)) t place)
    ≡ map (renumbered numbers) (spec.chosen_among (map found (f ∷ [])) t place) ++ map (renumbered numbers) (spec.chosen_among (map found fs) t place)
split numbers t place f fs =
    ap (map (renumbered numbers)) (chosen_split (found f) (map found fs) t place)
    ∙ map-append (renumbered numbers) (spec.chosen_among (found f ∷ []) t place) (spec.chosen_among (map found fs) t place)

pub loop-one-init : goal.loop-one-init
loop-one-init c place =
    let numbers = c.args.numbers.now in
    ap (λ cs. cs ++ map (renumbered numbers) (spec.chosen_among (map found c.args.all.now) c.args.t place)) (c.new-made.ensures place)

pub loop-one-preserved : goal.loop-one-preserved
loop-one-preserved c place =
    let numbers = c.args.numbers.now in
    let xs = c.args.all.now in
    let inside : c.loop-one.one-index < length xs = omega (arith, c.loop-one-test.true) in
    joined_more (λ fs. map (renumbered numbers) (spec.chosen_among (map found fs) c.args.t place)) (split numbers c.args.t place) xs c.loop-one.one-index c.one-item.result
    (chosen_at c.loop-one.made place) _ inside (sym c.one-item.is) (c.in_ok-add_where.ensures place)
    ∙ c.loop-one.invariant place

pub returns : goal.returns
returns c place =
    let numbers = c.args.numbers.now in
    joined_all (λ fs. map (renumbered numbers) (spec.chosen_among (map found fs) c.args.t place)) refl c.args.all.now c.loop-one.one-index (chosen_at c.loop-one.made place) _
    c.loop-one-test.false (c.loop-one.invariant place)
