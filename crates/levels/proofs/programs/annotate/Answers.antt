use Rattle.std.proofs.Common.{◌≡◌, ◌<◌, ◌+◌, ◌++◌, ◌∙◌, ℕ, List, length, length-drop, map, take, drop, sym, ap, arith}
use Rattle.std.proofs.lemmas.List.{length-map, map-set, drop-set-lt, get_or-map}
use Rattle.cov_ast.specs.Plain.{bare_thread}
use Rattle.cov_ast.specs.View as view
use Rattle.cov_ast.specs.declared.decl.ThreadDecl.{ThreadDecl}
use Rattle.levels.specs.Projection.{marked_thread}
use Rattle.levels.proofs.ShowLaws.{threads_more, threads_left}
use Rattle.levels.proofs.programs.annotate.Goals as goal

-- the number of a thread that is reached is one of an annotated thread
module _ (threads annotated : List ThreadDecl) (t : ℕ) (left : drop t (map view.thread threads) ≡ map bare_thread (drop t (map view.thread annotated))) (here : t < length threads) where
  inside : t < length (map view.thread threads)
  inside = omega (arith, length-map threads view.thread, here)

  within : t < length (map view.thread annotated)
  within =
      let whole = map view.thread annotated in
      omega (arith, inside, length-drop t (map view.thread threads), length-drop t whole, length-map (drop t whole) bare_thread, ap length left)

  there : t < length annotated
  there = omega (arith, within, length-map annotated view.thread)

pub annotate_thread-requires : goal.annotate_thread-requires
annotate_thread-requires c =
    let t = c.loop-t.t in
    let threads = c.loop-t.threads in
    let annotated = c.args.annotated.now in
    let x = c.index-threads-t.result in
    let y = c.index-annotated-t.result in
    let left = c.loop-t.invariant.left in
    let here : t < length threads = omega (arith, c.loop-t.auto.threads, c.loop-t-test.true) in
    let parts = threads_left (map view.thread threads) (map view.thread annotated) t (view.thread x) (view.thread y)
    (inside threads annotated t left here) (within threads annotated t left here) left in
    sym (get_or-map view.thread threads t x (view.thread x) here)
    ∙ parts.0
    ∙ ap bare_thread (get_or-map view.thread annotated t y (view.thread y) (there threads annotated t left here) ∙ ap view.thread (sym c.index-annotated-t.is))

pub loop-t-preserved : goal.loop-t-preserved
loop-t-preserved c =
    let marks = c.args.marks.now in
    let t = c.loop-t.t in
    let threads = c.loop-t.threads in
    let annotated = c.args.annotated.now in
    let seen = map view.thread threads in
    let whole = map view.thread annotated in
    let x = c.index-threads-t.result in
    let y = c.index-annotated-t.result in
    let left = c.loop-t.invariant.left in
    let here : t < length threads = omega (arith, c.loop-t.auto.threads, c.loop-t-test.true) in
    let is-inside = inside threads annotated t left here in
    let is-within = within threads annotated t left here in
    let parts = threads_left seen whole t (view.thread x) (view.thread y) is-inside is-within left in
    let is =
    c.in_ok-annotate_thread.ensures
    ∙ ap (λ s. marked_thread marks (view.thread s)) c.index-annotated-t.is
    ∙ ap (marked_thread marks) (sym (get_or-map view.thread annotated t y (view.thread y) (there threads annotated t left here))) in
    record {
      made =
          ap (λ vs. take (t + 1) vs ++ map (marked_thread marks) (drop (t + 1) whole)) (map-set view.thread threads t _)
          ∙ threads_more marks seen whole t (view.thread x) (view.thread y) _ is-inside is-within is
          ∙ c.loop-t.invariant.made;
      left = ap (drop (t + 1)) (map-set view.thread threads t _) ∙ drop-set-lt (t + 1) seen t _ (omega arith) ∙ parts.1;
    }
