use Rattle.std.proofs.Common.{◌∙◌, ap, cond, Some, None}
use Rattle.std.specs.Prelude.{not}
use Rattle.policy_class.specs.Inside.DeclaredNames.{declared_name}
use Rattle.policy_class.specs.Resolved.{w1_obligation}
use Rattle.policy_class.proofs.NameLaws.{found_among, missing_among, added_last}
use Rattle.policy_class.proofs.names.declare.Goals as goal

pub returns-in-Some-clause-decided : goal.returns-in-Some-clause-decided
returns-in-Some-clause-decided c =
    let table = c.args.table.now in
    let declared = c.args.declared.now in
    rw c.refused.ensures
    (ap (λ b. cond (not b) None (Some (w1_obligation table (declared_name declared)).refusal)) (found_among table declared.name c.in-Some.field-0 c.in-Some.ensures.number))

pub returns-clause-decided : goal.returns-clause-decided
returns-clause-decided c =
    let table = c.args.table.now in
    let declared = c.args.declared.now in
    ap (λ b. cond (not b) None (Some (w1_obligation table (declared_name declared)).refusal)) (missing_among table declared.name c.in_default.ensures.number)

pub returns-clause-added : goal.returns-clause-added
returns-clause-added c = c.in_ok-add.ensures.ok ∙ added_last c.args.table.now c.args.declared.now.name c.in_default.ensures.number
