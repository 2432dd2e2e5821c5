use Rattle.std.proofs.Common.{List, map, refl}
use Rattle.std.specs.List.{flat_map}
use Rattle.cov_ast.specs.View as view
use Rattle.cov_ast.specs.declared.decl.LockDecl.{LockDecl}
use Rattle.cov_ast.specs.Obligations.{Obligation}
use Rattle.cov_ast.proofs.ObligationLaws.{loop_refused, loop_more}
use Rattle.cov_ast.proofs.WellFormedLaws.{lock_in_range}
use Rattle.lock_spec.specs.Locks.{invariant_obligations}
use Rattle.lock_spec.proofs.locks.check_invariants.Goals as goal

pub check_invariant-requires : goal.check_invariant-requires
check_invariant-requires c =
    lock_in_range c.args.p.now c.requires c.loop-lock.lock-index c.lock-item.result
    (rw c.as_slice-lock-items.ensures at c.loop-lock-test.true) (rw c.as_slice-lock-items.ensures at c.lock-item.is)

pub returns-in-Err : goal.returns-in-Err
returns-in-Err c =
    let F : List LockDecl → List Obligation = λ ys. flat_map (invariant_obligations (view.program c.args.p.now)) (map view.lock ys) in
    loop_refused F F (invariant_obligations (view.program c.args.p.now) (view.lock c.lock-item.result)) (F c.args.p.now.locks) c.args.p.now.locks
    c.loop-lock.lock-index c.lock-item.result
    (rw c.as_slice-lock-items.ensures at c.loop-lock-test.true) (rw c.as_slice-lock-items.ensures at c.lock-item.is) (λ ys. refl)
    c.loop-lock.invariant c.in-Err.fault c.in-Err.ensures

pub loop-lock-preserved : goal.loop-lock-preserved
loop-lock-preserved c =
    let F : List LockDecl → List Obligation = λ ys. flat_map (invariant_obligations (view.program c.args.p.now)) (map view.lock ys) in
    loop_more F F (invariant_obligations (view.program c.args.p.now) (view.lock c.lock-item.result)) (F c.args.p.now.locks) c.args.p.now.locks
    c.loop-lock.lock-index c.lock-item.result
    (rw c.as_slice-lock-items.ensures at c.loop-lock-test.true) (rw c.as_slice-lock-items.ensures at c.lock-item.is) (λ ys. refl)
    c.loop-lock.invariant c.in_default.ensures
