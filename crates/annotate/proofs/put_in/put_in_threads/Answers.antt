use Rattle.std.proofs.Common.{◌<◌, ◌+◌, ◌∙◌, length, get_or, map, sym, ap, arith}
use Rattle.std.proofs.lemmas.List.{length-map, map-set, get_or-map}
use Rattle.std.proofs.lemmas.Option.{slice_get-get_or}
use Rattle.std.specs.Prelude.{Some}
use Rattle.cov_ast.specs.View as view
use Rattle.annotate.specs.Inside.Choosing.{chosen_in, chosen_of}
use Rattle.annotate.specs.WithCertificates.{put_in_thread}
use Rattle.annotate.proofs.PuttingLaws.{threads_all, threads_mixed, threads_more}
use Rattle.annotate.proofs.put_in.put_in_threads.Goals as goal

pub loop-t-preserved : goal.loop-t-preserved
loop-t-preserved c =
    let cs = c.args.chosen.now in
    let t = c.loop-t.t in
    let threads = c.loop-t.threads in
    let x = c.index-threads-t.result in
    let y = c.index-chosen-t.result in
    let here : t < length threads = omega (arith, c.loop-t.auto.threads, c.loop-t-test.true) in
    let there : t < length cs = omega (arith, c.requires, here, c.loop-t.auto.threads) in
    let chosen = ap chosen_of (slice_get-get_or cs t y there ∙ ap Some (sym c.index-chosen-t.is)) in
    ap (threads_mixed (chosen_in cs) (t + 1)) (map-set view.thread threads t _)
    ∙ threads_more (chosen_in cs) t (map view.thread threads) (view.thread x) _ (omega (arith, here, length-map threads view.thread))
    (c.in_ok-put_in_thread.ensures
    ∙ ap (λ f. put_in_thread f (view.thread (get_or threads t x))) (sym chosen)
    ∙ ap (put_in_thread (chosen_in cs t)) (sym (get_or-map view.thread threads t x (view.thread x) here)))
    ∙ c.loop-t.invariant

pub returns : goal.returns
returns c =
    threads_all (chosen_in c.args.chosen.now) c.loop-t.t (map view.thread c.loop-t.threads)
    (omega (arith, length-map c.loop-t.threads view.thread, c.loop-t.auto.threads, c.loop-t-test.false))
    ∙ c.loop-t.invariant
