use Rattle.std.proofs.Common.{List, map, refl}
use Rattle.std.specs.List.{flat_map}
use Rattle.cov_ast.specs.View as view
use Rattle.cov_ast.specs.declared.decl.LockDecl.{LockDecl}
use Rattle.cov_ast.specs.Obligations.{Obligation}
use Rattle.cov_ast.proofs.ObligationLaws.{loop_refused, loop_more}
use Rattle.cov_ast.proofs.WellFormedLaws.{lock_in_range}
use Rattle.mode_compat.specs.Compatible.{w7_obligations}
use Rattle.mode_compat.proofs.controls.check_locks.Goals as goal

pub check_lock-requires-clause-range : goal.check_lock-requires-clause-range
check_lock-requires-clause-range c =
    lock_in_range c.args.p.now c.requires.formed c.loop-lock.lock-index c.lock-item.result
    (rw c.as_slice-lock-items.ensures at c.loop-lock-test.true) (rw c.as_slice-lock-items.ensures at c.lock-item.is)

pub returns-in-Err : goal.returns-in-Err
returns-in-Err c =
    let F : List LockDecl → List Obligation = λ ys. flat_map (w7_obligations (view.program c.args.p.now)) (map view.lock ys) in
    loop_refused F F (w7_obligations (view.program c.args.p.now) (view.lock c.lock-item.result)) (F c.args.p.now.locks) c.args.p.now.locks
    c.loop-lock.lock-index c.lock-item.result
    (rw c.as_slice-lock-items.ensures at c.loop-lock-test.true) (rw c.as_slice-lock-items.ensures at c.lock-item.is) (λ ys. refl)
    c.loop-lock.invariant c.in-Err.fault c.in-Err.ensures

pub loop-lock-preserved : goal.loop-lock-preserved
loop-lock-preserved c =
    let F : List LockDecl → List Obligation = λ ys. flat_map (w7_obligations (view.program c.args.p.now)) (map view.lock ys) in
    loop_more F F (w7_obligations (view.program c.args.p.now) (view.lock c.lock-item.result)) (F c.args.p.now.locks) c.args.p.now.locks
    c.loop-lock.lock-index c.lock-item.result
    (rw c.as_slice-lock-items.ensures at c.loop-lock-test.true) (rw c.as_slice-lock-items.ensures at c.lock-item.is) (λ ys. refl)
    c.loop-lock.invariant c.in_default.ensures
