use Rattle.std.proofs.Common.{◌≡◌, inl, inr, ℕ, ◌<◌, ◌≤◌, ◌+◌, ◌++◌, ◌∙◌, [], ◌∷◌, List, length, map, refl, sym, ap, subst, arith, append-nil}
use Rattle.std.specs.List.{flat_map}
use Rattle.std.proofs.lemmas.Bool.{cases_lt}
use Rattle.std.proofs.lemmas.List.{length-map, length_push}
use Rattle.cov_ast.specs.View as view
use Rattle.mode_compat.specs.Compatible.{threads_of}
use Rattle.annotate.specs.Annotated.{choices, open_of}
use Rattle.annotate.specs.NotFound.{not_found_in_thread}
use Rattle.annotate.specs.declared.outcome.Open.{Open}
use Rattle.annotate.specs.Inside.Choosing.{chosen_in}
use Rattle.annotate.specs.Inside.Searches.{renumbered}
use Rattle.annotate.proofs.SearchedLaws.{joined_all, joined_more, no_choices, thread_count, thread_is}
use Rattle.annotate.proofs.ThreadChoiceLaws.{chosen_before, chosen_last, chosen_past}
use Rattle.annotate.proofs.choosing.choose.Goals as goal

pub loop-t-preserved : goal.loop-t-preserved
loop-t-preserved c =
    let p = c.args.q.now in
    let q = view.program p in
    let depth = c.args.depth in
    let numbers = c.args.numbers.now in
    let t = c.loop-t.t in
    let made = c.loop-t.made in
    let new = c.push.new.self in
    let inside : t < length p.threads = omega (arith, c.loop-t-test.true, c.len-t-end.ensures) in
    let count = c.loop-t.invariant.count in
    let g : ℕ → List Open = λ u. map (open_of u) (not_found_in_thread depth q u) in
    record {
      count = ap length c.in_ok-push.ensures.ok ∙ length_push made c.in_ok-chosen.chosen ∙ ap (λ n. n + 1) count;
      chosen = λ u place below. subst (λ cs. chosen_in cs u place ≡ map (renumbered numbers) (choices depth q u place)) (sym c.in_ok-push.ensures.ok)
          (elim (cases_lt u t) [
            | inl lt ↦ chosen_before made c.in_ok-chosen.chosen u place (omega (arith, lt, count)) ∙ c.loop-t.invariant.chosen u place lt
            | inr le ↦
                let is : u ≡ length made = omega (arith, le, below, count) in
                ap (λ k. chosen_in (made ++ c.in_ok-chosen.chosen ∷ []) k place) is ∙ chosen_last made c.in_ok-chosen.chosen place
                ∙ c.in_ok-chosen.ensures.chosen place
                ∙ ap (λ k. map (renumbered numbers) (choices depth q k place)) (sym (is ∙ count))
          ]);
      unproved =
          joined_more (λ us. flat_map g us) (λ u us. ap (λ os. os ++ flat_map g us) (sym (append-nil (g u)))) (threads_of q) t t c.loop-t.unproved _ (omega (arith, inside, thread_count p))
          (thread_is p t inside) (c.in_ok-chosen.ensures.unproved ∙ ap (λ os. c.loop-t.unproved ++ os) (sym (append-nil (g t))))
          ∙ c.loop-t.invariant.unproved;
    }

pub returns-clause-count : goal.returns-clause-count
returns-clause-count c = omega (arith, c.loop-t.invariant.count, c.loop-t.auto.t-end, c.loop-t-test.false, c.len-t-end.ensures)

pub returns-clause-chosen : goal.returns-clause-chosen
returns-clause-chosen c t place =
    let p = c.args.q.now in
    let past : length p.threads ≤ c.loop-t.t = omega (arith, c.loop-t-test.false, c.len-t-end.ensures) in
    elim (cases_lt t c.loop-t.t) [
      | inl lt ↦ c.loop-t.invariant.chosen t place lt
      | inr le ↦
          chosen_past c.loop-t.made t place (omega (arith, le, c.loop-t.invariant.count))
          ∙ sym (ap (map (renumbered c.args.numbers.now)) (no_choices c.args.depth (view.program p) t place (omega (arith, past, le, length-map p.threads view.thread))))
    ]

pub returns-clause-unproved : goal.returns-clause-unproved
returns-clause-unproved c =
    let p = c.args.q.now in
    let q = view.program p in
    let past : length p.threads ≤ c.loop-t.t = omega (arith, c.loop-t-test.false, c.len-t-end.ensures) in
    joined_all (λ us. flat_map (λ u. map (open_of u) (not_found_in_thread c.args.depth q u)) us) refl (threads_of q) c.loop-t.t c.loop-t.unproved _
    (omega (arith, past, thread_count p)) c.loop-t.invariant.unproved
