use Rattle.std.proofs.Common.{◌∙◌}
use Rattle.policy_class.proofs.NameLaws.{missing_number}
use Rattle.annotate.proofs.numbers.number_of.Goals as goal

pub returns-in-None : goal.returns-in-None
returns-in-None c = c.len.ensures.len ∙ missing_number c.args.names.now c.args.name c.in-None.ensures.number
