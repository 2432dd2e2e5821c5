use Rattle.std.proofs.Common.{List, map, refl, [], ◌∷◌, get_or, false, subst, Err}
use Rattle.cov_ast.specs.View as view
use Rattle.cov_ast.specs.declared.parsed.NameUse.{NameUse}
use Rattle.cov_ast.specs.Obligations.{Obligation, Decides}
use Rattle.cov_ast.proofs.ObligationLaws.{loop_refused, loop_more}
use Rattle.policy_class.specs.Resolved.{use_obligation}
use Rattle.policy_class.proofs.UseLaws.{item_is}
use Rattle.policy_class.proofs.uses.check_uses.Goals as goal

pub check_use-requires-clause-range : goal.check_use-requires-clause-range
check_use-requires-clause-range c =
    let same = c.as_slice-used-items.ensures in
    rw same (c.requires.range c.loop-used.used-index (record { name = 0; lock = false; at = 0 }) (rw same at c.loop-used-test.true))

pub returns-in-Err : goal.returns-in-Err
returns-in-Err c =
    let F : List NameUse → List Obligation = λ us. map (use_obligation (view.parsed c.args.p.now)) us in
    let same = c.as_slice-used-items.ensures in
    let us = c.args.p.now.uses in
    let used : NameUse = get_or us c.loop-used.used-index (record { name = 0; lock = false; at = 0 }) in
    let inside = rw same at c.loop-used-test.true in
    let here =
    subst (λ (items : List NameUse). Decides (use_obligation (view.parsed c.args.p.now) (get_or items c.loop-used.used-index (record { name = 0; lock = false; at = 0 })) ∷ []) (Err c.in-Err.fault))
    same c.in-Err.ensures in
    loop_refused F F (use_obligation (view.parsed c.args.p.now) used ∷ []) (F us) us c.loop-used.used-index used
    inside (item_is us c.loop-used.used-index _ inside) (λ ys. refl) c.loop-used.invariant c.in-Err.fault here

pub loop-used-preserved : goal.loop-used-preserved
loop-used-preserved c =
    let F : List NameUse → List Obligation = λ us. map (use_obligation (view.parsed c.args.p.now)) us in
    let same = c.as_slice-used-items.ensures in
    let us = c.args.p.now.uses in
    let used : NameUse = get_or us c.loop-used.used-index (record { name = 0; lock = false; at = 0 }) in
    let inside = rw same at c.loop-used-test.true in
    loop_more F F (use_obligation (view.parsed c.args.p.now) used ∷ []) (F us) us c.loop-used.used-index used
    inside (item_is us c.loop-used.used-index _ inside) (λ ys. refl) c.loop-used.invariant (rw same at c.in_default.ensures)
