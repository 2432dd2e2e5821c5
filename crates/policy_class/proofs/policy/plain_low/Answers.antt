use Rattle.std.proofs.Common.{◌∙◌}
use Rattle.policy_class.proofs.PolicyLaws.{marked_low}
use Rattle.policy_class.proofs.policy.plain_low.Goals as goal

pub returns : goal.returns
returns c =
    c.from_marks.ensures
    ∙ marked_low c.args.p.now c.loop-var.marks c.loop-var.var-index (rw c.as_slice-var-items.ensures at c.loop-var-test.false) c.loop-var.invariant
