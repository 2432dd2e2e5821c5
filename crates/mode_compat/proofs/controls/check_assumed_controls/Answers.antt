use Rattle.std.proofs.Common.{List, map, refl}
use Rattle.std.specs.List.{flat_map}
use Rattle.cov_ast.specs.View as view
use Rattle.cov_ast.specs.declared.decl.ThreadDecl.{ThreadDecl}
use Rattle.cov_ast.specs.Obligations.{Obligation}
use Rattle.cov_ast.proofs.ObligationLaws.{loop_refused, loop_more}
use Rattle.cov_ast.proofs.WellFormedLaws.{thread_in_range}
use Rattle.mode_compat.specs.Compatible.{w8_obligations}
use Rattle.mode_compat.proofs.controls.check_assumed_controls.Goals as goal

pub check_thread-requires-clause-range : goal.check_thread-requires-clause-range
check_thread-requires-clause-range c =
    thread_in_range c.args.p.now c.requires c.loop-thread.thread-index c.thread-item.result
    (rw c.as_slice-thread-items.ensures at c.loop-thread-test.true) (rw c.as_slice-thread-items.ensures at c.thread-item.is)

pub returns-in-Err : goal.returns-in-Err
returns-in-Err c =
    let F : List ThreadDecl → List Obligation = λ ys. flat_map (w8_obligations (view.program c.args.p.now)) (map view.thread ys) in
    loop_refused F F (w8_obligations (view.program c.args.p.now) (view.thread c.thread-item.result)) (F c.args.p.now.threads) c.args.p.now.threads
    c.loop-thread.thread-index c.thread-item.result
    (rw c.as_slice-thread-items.ensures at c.loop-thread-test.true) (rw c.as_slice-thread-items.ensures at c.thread-item.is) (λ ys. refl)
    c.loop-thread.invariant c.in-Err.fault c.in-Err.ensures

pub loop-thread-preserved : goal.loop-thread-preserved
loop-thread-preserved c =
    let F : List ThreadDecl → List Obligation = λ ys. flat_map (w8_obligations (view.program c.args.p.now)) (map view.thread ys) in
    loop_more F F (w8_obligations (view.program c.args.p.now) (view.thread c.thread-item.result)) (F c.args.p.now.threads) c.args.p.now.threads
    c.loop-thread.thread-index c.thread-item.result
    (rw c.as_slice-thread-items.ensures at c.loop-thread-test.true) (rw c.as_slice-thread-items.ensures at c.thread-item.is) (λ ys. refl)
    c.loop-thread.invariant c.in_default.ensures
