use Rattle.std.proofs.Common.{ap, ◌∙◌}
use Rattle.std.proofs.lemmas.List.{map-set}
use Rattle.flow_model.specs.FirstDifference.{held_by, holders_of}
use Rattle.source_machine.proofs.shared.Shared.set_holder.Goals as goal

pub returns-clause-holders : goal.returns-clause-holders
returns-clause-holders c = ap holders_of c.set.ensures ∙ map-set held_by c.args.self.now.holders c.args.l record { 0 = c.args.holder }
