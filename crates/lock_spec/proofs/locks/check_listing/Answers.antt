use Rattle.std.proofs.Common.{sym, ap, Err, ◌++◌, subst}
use Rattle.cov_ast.specs.View as view
use Rattle.cov_ast.specs.Tables.{with_all}
use Rattle.cov_ast.specs.Obligations.{first_false, Decides}
use Rattle.cov_ast.proofs.ObligationLaws.{same_decided, append_decided, append_refused}
use Rattle.cov_ast.proofs.TableLaws.{with_all_append}
use Rattle.lock_spec.specs.Inside.{marked_obligations}
use Rattle.lock_spec.proofs.Listings.{marked_append}
use Rattle.lock_spec.proofs.locks.check_listing.Goals as goal

pub returns-in-Ok-clause-decides : goal.returns-in-Ok-clause-decides
returns-in-Ok-clause-decides c =
    let p = view.program c.args.p.now in
    let l = view.lock c.args.lock.now in
    same_decided (marked_obligations p l c.args.seen.now l.nowrite ++ marked_obligations p l (with_all c.args.seen.now l.nowrite) l.hide)
    (marked_obligations p l c.args.seen.now (l.nowrite ++ l.hide)) c.check_list-in-Ok.result
    (ap first_false (sym (marked_append p l c.args.seen.now l.nowrite l.hide)))
    (append_decided (marked_obligations p l c.args.seen.now l.nowrite) (marked_obligations p l (with_all c.args.seen.now l.nowrite) l.hide) c.check_list-in-Ok.result
    (rw c.as_slice.ensures at c.in-Ok.ensures.decides)
    (rw (c.as_slice-in-Ok.ensures, c.in-Ok.ensures.ok, c.as_slice.ensures) at c.check_list-in-Ok.ensures.decides))

pub returns-in-Ok-clause-ok : goal.returns-in-Ok-clause-ok
returns-in-Ok-clause-ok c =
    rw (with_all_append c.args.seen.now c.args.lock.now.nowrite c.args.lock.now.hide)
    (rw (c.as_slice-in-Ok.ensures, c.in-Ok.ensures.ok, c.as_slice.ensures) at c.check_list-in-Ok.ensures.ok)

pub returns-in-Err-clause-decides : goal.returns-in-Err-clause-decides
returns-in-Err-clause-decides c =
    let p = view.program c.args.p.now in
    let l = view.lock c.args.lock.now in
    let first : Decides (marked_obligations p l c.args.seen.now c.as_slice.result.now) (Err c.in-Err.fault) = c.in-Err.ensures.decides in
    same_decided (marked_obligations p l c.args.seen.now l.nowrite ++ marked_obligations p l (with_all c.args.seen.now l.nowrite) l.hide)
    (marked_obligations p l c.args.seen.now (l.nowrite ++ l.hide)) (Err c.in-Err.fault)
    (ap first_false (sym (marked_append p l c.args.seen.now l.nowrite l.hide)))
    (append_refused (marked_obligations p l c.args.seen.now l.nowrite) (marked_obligations p l (with_all c.args.seen.now l.nowrite) l.hide) c.in-Err.fault
    (subst (λ xs. Decides (marked_obligations p l c.args.seen.now xs) (Err c.in-Err.fault)) c.as_slice.ensures first))
