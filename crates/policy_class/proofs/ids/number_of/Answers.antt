use Rattle.std.proofs.Common.{◌∙◌}
use Rattle.policy_class.proofs.NameLaws.{found_number, missing_number}
use Rattle.policy_class.proofs.ids.number_of.Goals as goal

pub returns-in-Some : goal.returns-in-Some
returns-in-Some c = found_number c.args.declared.now c.args.name c.in-Some.number c.in-Some.ensures.number

pub returns-in-None : goal.returns-in-None
returns-in-None c = c.len.ensures.len ∙ missing_number c.args.declared.now c.args.name c.in-None.ensures.number
