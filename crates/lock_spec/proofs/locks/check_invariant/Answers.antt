use Rattle.std.proofs.Common.{sym, ap}
use Rattle.std.specs.Prelude.{option_map}
use Rattle.cov_expr.specs.View.{term}
use Rattle.cov_ast.specs.View as view
use Rattle.cov_ast.specs.Declarations.{invariant_term, lists}
use Rattle.cov_ast.proofs.ObligationLaws.{vars_held, vars_refused, outside_in_range}
use Rattle.lock_spec.specs.Locks.{invariant_obligation}
use Rattle.lock_spec.proofs.locks.check_invariant.Goals as goal

pub returns-in-None : goal.returns-in-None
returns-in-None c =
    vars_held c.len.result (lists (view.lock c.args.lock.now)) (λ y. (invariant_obligation (view.program c.args.p.now) (view.lock c.args.lock.now) y).refusal)
    c.in_ok-listed.listed c.in_ok-listed.ensures _ (term c.in-Some.inv) (ap (λ o. invariant_term (option_map term o)) c.in-Some.is)
    (rw (sym c.len.ensures) at c.requires.invariant) c.in-None.ensures

pub var_name-requires : goal.var_name-requires
var_name-requires c =
    rw (sym c.len.ensures)
    (outside_in_range c.len.result (lists (view.lock c.args.lock.now)) (λ y. (invariant_obligation (view.program c.args.p.now) (view.lock c.args.lock.now) y).refusal)
    c.in_ok-listed.listed c.in_ok-listed.ensures (invariant_term (option_map term c.args.lock.now.inv)) (term c.in-Some.inv) (ap (λ o. invariant_term (option_map term o)) c.in-Some.is)
    (rw (sym c.len.ensures) at c.requires.invariant) c.in-Some-first_outside.y c.in-Some-first_outside.ensures)

pub returns : goal.returns
returns c =
    let p = view.program c.args.p.now in
    let l = view.lock c.args.lock.now in
    rw (c.refused.ensures, c.var_name.ensures)
    (vars_refused c.len.result (lists l) (λ y. (invariant_obligation p l y).refusal)
    c.in_ok-listed.listed c.in_ok-listed.ensures (invariant_term l.inv) (term c.in-Some.inv) (ap (λ o. invariant_term (option_map term o)) c.in-Some.is)
    (rw (sym c.len.ensures) at c.requires.invariant) c.in-Some-first_outside.y c.in-Some-first_outside.ensures)
