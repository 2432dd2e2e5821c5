use Rattle.std.proofs.Common.{◌∙◌, ap, ◌-◌, arith, ◌<◌, ◌≤◌, length}
use Rattle.policy_class.proofs.IdLaws.{lock_before, lock_inside, lock_outside}
use Rattle.policy_class.proofs.ids.lock_id.Goals as goal

pub returns-then-number-first : goal.returns-then-number-first
returns-then-number-first c =
    c.len-count.ensures
    ∙ lock_before c.args.p.now c.args.declared.now c.requires.table c.args.name c.number_of-number.result c.number_of-number.ensures
    (rw c.len-first.ensures at c.if-number-first.true)

pub returns-then-id-count : goal.returns-then-id-count
returns-then-id-count c =
    let inside : c.number_of-number.result - length c.args.p.now.vars < length c.args.p.now.locks =
    omega (arith, c.len-first.ensures, c.len-count.ensures, c.if-id-count.true) in
    ap (λ n. c.number_of-number.result - n) c.len-first.ensures
    ∙ lock_inside c.args.p.now c.args.declared.now c.requires.table c.args.name c.number_of-number.result c.number_of-number.ensures
    (rw c.len-first.ensures at c.if-number-first.false) inside

pub returns-else-id-count : goal.returns-else-id-count
returns-else-id-count c =
    let past : length c.args.p.now.locks ≤ c.number_of-number.result - length c.args.p.now.vars =
    omega (arith, c.len-first.ensures, c.len-count.ensures, c.if-id-count.false) in
    c.len-count.ensures
    ∙ lock_outside c.args.p.now c.args.declared.now c.requires.table c.args.name c.number_of-number.result c.number_of-number.ensures
    (rw c.len-first.ensures at c.if-number-first.false) past
