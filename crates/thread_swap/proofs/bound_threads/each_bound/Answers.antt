use Rattle.std.proofs.Common.{◌<◌, ◌≤◌, ◌∷◌, [], ◌∙◌, length, map, refl, subst, ap, arith}
use Rattle.std.proofs.lemmas.List.{get_or-map, length-map}
use Rattle.cov_ast.specs.Ready.{IsReady}
use Rattle.cov_ast.specs.View as view
use Rattle.thread_swap.specs.Inside.Over.{threads_in}
use Rattle.thread_swap.specs.Replacements.{IsNamed}
use Rattle.thread_swap.proofs.BindLaws.{all_named}
use Rattle.thread_swap.proofs.BoundLaws.{bound_all, bound_more, left_more, none_bound, pushed_view, some_left, taken}
use Rattle.thread_swap.proofs.OverLaws.{one_ready}
use Rattle.thread_swap.proofs.bound_threads.each_bound.Goals as goal

pub loop-t-init : goal.loop-t-init
loop-t-init c = record {
  left = refl;
  bound = none_bound (view.program c.args.p.now) (view.parsed c.args.names.now) (map view.thread c.args.threads) c.new-made.result c.new-made.ensures;
}

pub remove-thread-requires : goal.remove-thread-requires
remove-thread-requires c =
    some_left c.args.threads c.loop-t.rest c.loop-t.t (omega (arith, c.loop-t-test.true, c.len-t-end.ensures)) c.loop-t.invariant.left

pub bound_thread-requires-clause-ready : goal.bound_thread-requires-clause-ready
bound_thread-requires-clause-ready c =
    let ts = c.args.threads in
    let t = c.loop-t.t in
    let d = c.remove-thread.result in
    let inside : t < length ts = omega (arith, c.loop-t-test.true, c.len-t-end.ensures) in
    let is = taken ts c.loop-t.rest t d inside c.loop-t.invariant.left c.remove-thread.ensures.item in
    subst (λ u. IsReady (threads_in (view.parsed c.args.names.now) (u ∷ []))) (get_or-map view.thread ts t d (view.thread d) inside ∙ ap view.thread is)
    (one_ready (view.parsed c.args.names.now) (map view.thread ts) c.requires.ready t (view.thread d) (omega (arith, inside, length-map ts view.thread)))

pub bound_thread-requires-clause-named : goal.bound_thread-requires-clause-named
bound_thread-requires-clause-named c =
    let ts = c.args.threads in
    let t = c.loop-t.t in
    let d = c.remove-thread.result in
    let inside : t < length ts = omega (arith, c.loop-t-test.true, c.len-t-end.ensures) in
    let is = taken ts c.loop-t.rest t d inside c.loop-t.invariant.left c.remove-thread.ensures.item in
    subst (IsNamed (view.program c.args.p.now)) (get_or-map view.thread ts t d (view.thread d) inside ∙ ap view.thread is)
    (all_named (view.program c.args.p.now) (map view.thread ts) c.requires.named t (view.thread d) (omega (arith, inside, length-map ts view.thread)))

pub loop-t-preserved : goal.loop-t-preserved
loop-t-preserved c =
    let ts = c.args.threads in
    let t = c.loop-t.t in
    let d = c.remove-thread.result in
    let inside : t < length ts = omega (arith, c.loop-t-test.true, c.len-t-end.ensures) in
    let is = taken ts c.loop-t.rest t d inside c.loop-t.invariant.left c.remove-thread.ensures.item in
    record {
      left = left_more ts c.loop-t.rest t d inside c.loop-t.invariant.left c.remove-thread.ensures.item c.remove-thread.new.self c.remove-thread.ensures.rest;
      bound =
          bound_more (view.program c.args.p.now) (view.parsed c.args.names.now) (map view.thread ts) (map view.thread c.loop-t.made) (map view.thread c.push.new.self) t
          (view.thread d) (view.thread c.in-Ok.bound) (omega (arith, inside, length-map ts view.thread))
          (get_or-map view.thread ts t d (view.thread d) inside ∙ ap view.thread is)
          (pushed_view c.loop-t.made c.push.new.self c.in-Ok.bound c.in_ok-push-in-Ok.ensures.ok) c.loop-t.invariant.bound c.in-Ok.ensures;
    }

pub returns : goal.returns
returns c =
    let ts = c.args.threads in
    let past : length ts ≤ c.loop-t.t = omega (arith, c.loop-t-test.false, c.len-t-end.ensures) in
    bound_all (view.program c.args.p.now) (view.parsed c.args.names.now) (map view.thread ts) (map view.thread c.loop-t.made) c.loop-t.t
    (omega (arith, past, length-map ts view.thread)) c.loop-t.invariant.bound
