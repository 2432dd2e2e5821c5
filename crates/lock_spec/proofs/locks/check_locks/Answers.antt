use Rattle.std.proofs.Common.{◌∙◌, sym, ap, length, [], Err, replicate, false}
use Rattle.std.specs.List.{flat_map}
use Rattle.cov_ast.specs.View as view
use Rattle.cov_ast.specs.Obligations.{first_false}
use Rattle.cov_ast.proofs.ObligationLaws.{append_decided, append_refused, same_decided}
use Rattle.cov_ast.proofs.WellFormedLaws.{locks_in_range}
use Rattle.lock_spec.specs.Locks.{w4_from, invariant_obligations}
use Rattle.lock_spec.specs.Inside.{marked_from}
use Rattle.lock_spec.proofs.Listings.{marked_all}
use Rattle.lock_spec.proofs.locks.check_locks.Goals as goal

pub returns-in-Ok : goal.returns-in-Ok
returns-in-Ok c =
    let p = view.program c.args.p.now in
    let e = ap (λ marks. marked_from p marks p.locks) (c.in_ok-seen.ensures ∙ ap (λ n. replicate n false) c.len.ensures)
    ∙ marked_all p (length c.args.p.now.vars) (length c.args.p.now.locks) p.locks (locks_in_range c.args.p.now c.requires) in
    append_decided (w4_from p [] p.locks) (flat_map (invariant_obligations p) p.locks) c.check_invariants.result
    (ap first_false (sym e) ∙ c.in-Ok.ensures) c.check_invariants.ensures

pub returns : goal.returns
returns c =
    let p = view.program c.args.p.now in
    let e = ap (λ marks. marked_from p marks p.locks) (c.in_ok-seen.ensures ∙ ap (λ n. replicate n false) c.len.ensures)
    ∙ marked_all p (length c.args.p.now.vars) (length c.args.p.now.locks) p.locks (locks_in_range c.args.p.now c.requires) in
    append_refused (w4_from p [] p.locks) (flat_map (invariant_obligations p) p.locks) c.in-Err.fault
    (same_decided (marked_from p c.in_ok-seen.seen p.locks) (w4_from p [] p.locks) (Err c.in-Err.fault) (ap first_false e) c.in-Err.ensures)
