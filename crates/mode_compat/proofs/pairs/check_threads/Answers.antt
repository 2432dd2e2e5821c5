use Rattle.std.proofs.Common.{List, ℕ, refl}
use Rattle.std.specs.List.{flat_map}
use Rattle.cov_ast.specs.View as view
use Rattle.cov_ast.specs.Obligations.{Obligation}
use Rattle.cov_ast.proofs.ObligationLaws.{loop_refused, loop_more}
use Rattle.cov_ast.proofs.WellFormedLaws.{thread_in_range}
use Rattle.mode_compat.specs.Compatible.{w9_obligations, threads_of}
use Rattle.mode_compat.proofs.ModeLaws.{number_inside, number_is, none_left}
use Rattle.mode_compat.proofs.pairs.check_threads.Goals as goal

pub check_others-requires-clause-range : goal.check_others-requires-clause-range
check_others-requires-clause-range c =
    thread_in_range c.args.p.now c.requires.formed c.loop-t.t c.thread-item.result
    (rw c.as_slice-thread-items.ensures at c.loop-t-test.true) (rw c.as_slice-thread-items.ensures at c.thread-item.is)

pub returns-in-Err : goal.returns-in-Err
returns-in-Err c =
    let p = c.args.p.now in
    let g : ℕ → List Obligation = w9_obligations (view.program p) in
    let F : List ℕ → List Obligation = λ ys. flat_map g ys in
    let lt = rw c.as_slice-thread-items.ensures at c.loop-t-test.true in
    loop_refused F F (g c.loop-t.t) (F (threads_of (view.program p))) (threads_of (view.program p)) c.loop-t.t c.loop-t.t
    (number_inside p c.loop-t.t lt) (number_is p c.loop-t.t lt) (λ ys. refl) c.loop-t.invariant c.in-Err.fault c.in-Err.ensures

pub loop-t-preserved : goal.loop-t-preserved
loop-t-preserved c =
    let p = c.args.p.now in
    let g : ℕ → List Obligation = w9_obligations (view.program p) in
    let F : List ℕ → List Obligation = λ ys. flat_map g ys in
    let lt = rw c.as_slice-thread-items.ensures at c.loop-t-test.true in
    loop_more F F (g c.loop-t.t) (F (threads_of (view.program p))) (threads_of (view.program p)) c.loop-t.t c.loop-t.t
    (number_inside p c.loop-t.t lt) (number_is p c.loop-t.t lt) (λ ys. refl) c.loop-t.invariant c.in_default.ensures

pub returns : goal.returns
returns c =
    none_left c.args.p.now (w9_obligations (view.program c.args.p.now)) c.loop-t.t (rw c.as_slice-thread-items.ensures at c.loop-t-test.false) c.loop-t.invariant
