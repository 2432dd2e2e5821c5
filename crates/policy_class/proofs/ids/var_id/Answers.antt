use Rattle.std.proofs.Common.{◌∙◌}
use Rattle.policy_class.proofs.IdLaws.{var_inside, var_outside}
use Rattle.policy_class.proofs.ids.var_id.Goals as goal

pub returns-then-number-count : goal.returns-then-number-count
returns-then-number-count c =
    var_inside c.args.p.now c.args.declared.now c.requires.table c.args.name c.number_of-number.result c.number_of-number.ensures
    (rw c.len-count.ensures at c.if-number-count.true)

pub returns-else-number-count : goal.returns-else-number-count
returns-else-number-count c =
    c.len-count.ensures
    ∙ var_outside c.args.p.now c.args.declared.now c.requires.table c.args.name c.number_of-number.result c.number_of-number.ensures
    (rw c.len-count.ensures at c.if-number-count.false)
