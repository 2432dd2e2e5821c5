use Rattle.std.proofs.Common.{◌≡◌, inl, inr, ◌+◌, ◌++◌, ◌∙◌, [], ◌∷◌, length, map, sym, ap, subst, arith}
use Rattle.std.proofs.lemmas.Bool.{cases_lt}
use Rattle.std.proofs.lemmas.List.{length_push}
use Rattle.annotate.specs.Inside.Choosing.{chosen_in}
use Rattle.annotate.specs.Inside.Searches.{renumbered}
use Rattle.annotate.proofs.ThreadChoiceLaws.{chosen_before, chosen_last}
use Rattle.deeper_text.specs.DeeperText as spec
use Rattle.deeper_text.specs.Inside.{found}
use Rattle.deeper_text.proofs.chosen.choose_found.Goals as goal

pub loop-t-preserved : goal.loop-t-preserved
loop-t-preserved c =
    let numbers = c.args.numbers.now in
    let all = map found c.args.all.now in
    let t = c.loop-t.t in
    let made = c.loop-t.made in
    let count = c.loop-t.invariant.count in
    record {
      count = ap length c.in_ok-push.ensures.ok ∙ length_push made c.in_ok-chosen.chosen ∙ ap (λ n. n + 1) count;
      chosen = λ u place below. subst (λ cs. chosen_in cs u place ≡ map (renumbered numbers) (spec.chosen_among all u place)) (sym c.in_ok-push.ensures.ok)
          (elim (cases_lt u t) [
            | inl lt ↦ chosen_before made c.in_ok-chosen.chosen u place (omega (arith, lt, count)) ∙ c.loop-t.invariant.chosen u place lt
            | inr le ↦
                let is : u ≡ length made = omega (arith, le, below, count) in
                ap (λ k. chosen_in (made ++ c.in_ok-chosen.chosen ∷ []) k place) is ∙ chosen_last made c.in_ok-chosen.chosen place
                ∙ c.in_ok-chosen.ensures place
                ∙ ap (λ k. map (renumbered numbers) (spec.chosen_among all k place)) (sym (is ∙ count))
          ]);
    }
