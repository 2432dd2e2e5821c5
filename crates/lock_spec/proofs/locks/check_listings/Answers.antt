use Rattle.std.proofs.Common.{◌++◌, List, map, refl, sym, ap}
use Rattle.cov_ast.specs.View as view
use Rattle.cov_ast.specs.Tables.{with_all}
use Rattle.cov_ast.specs.declared.decl.LockDecl.{LockDecl}
use Rattle.cov_ast.specs.Obligations.{Obligation}
use Rattle.cov_ast.proofs.ObligationLaws.{loop_refused, loop_more}
use Rattle.cov_ast.proofs.WellFormedLaws.{lock_in_range}
use Rattle.lock_spec.specs.Inside.{marked_obligations, marked_from}
use Rattle.lock_spec.proofs.locks.check_listings.Goals as goal

pub check_listing-requires : goal.check_listing-requires
check_listing-requires c =
    lock_in_range c.args.p.now c.requires c.loop-lock.lock-index c.lock-item.result
    (rw c.as_slice-lock-items.ensures at c.loop-lock-test.true) (rw c.as_slice-lock-items.ensures at c.lock-item.is)

pub returns-in-Err : goal.returns-in-Err
returns-in-Err c =
    let p = view.program c.args.p.now in
    let lock = c.lock-item.result in
    let F : List LockDecl → List Obligation = λ ys. marked_from p c.loop-lock.seen (map view.lock ys) in
    let G : List LockDecl → List Obligation = λ ys. marked_from p (with_all c.loop-lock.seen (lock.nowrite ++ lock.hide)) (map view.lock ys) in
    loop_refused F G (marked_obligations p (view.lock lock) c.loop-lock.seen (lock.nowrite ++ lock.hide)) (marked_from p c.args.seen.now (map view.lock c.args.p.now.locks))
    c.args.p.now.locks c.loop-lock.lock-index lock
    (rw c.as_slice-lock-items.ensures at c.loop-lock-test.true) (rw c.as_slice-lock-items.ensures at c.lock-item.is) (λ ys. refl)
    c.loop-lock.invariant c.in-Err.fault c.in-Err.ensures.decides

pub loop-lock-preserved : goal.loop-lock-preserved
loop-lock-preserved c =
    let p = view.program c.args.p.now in
    let lock = c.lock-item.result in
    let F : List LockDecl → List Obligation = λ ys. marked_from p c.loop-lock.seen (map view.lock ys) in
    let G : List LockDecl → List Obligation = λ ys. marked_from p c.check_listing.new.seen (map view.lock ys) in
    loop_more F G (marked_obligations p (view.lock lock) c.loop-lock.seen (lock.nowrite ++ lock.hide)) (marked_from p c.args.seen.now (map view.lock c.args.p.now.locks))
    c.args.p.now.locks c.loop-lock.lock-index lock
    (rw c.as_slice-lock-items.ensures at c.loop-lock-test.true) (rw c.as_slice-lock-items.ensures at c.lock-item.is)
    (λ ys. ap (λ marks. marked_obligations p (view.lock lock) c.loop-lock.seen (lock.nowrite ++ lock.hide) ++ marked_from p marks (map view.lock ys)) (sym c.in_default.ensures.ok))
    c.loop-lock.invariant c.in_default.ensures.decides
