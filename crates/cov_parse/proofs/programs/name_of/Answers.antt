use Rattle.std.proofs.Common.{[]}
use Rattle.cov_parse.proofs.BlockLaws.{stands_at}
use Rattle.cov_parse.proofs.programs.name_of.Goals as goal

pub returns : goal.returns
returns c = stands_at c.args.names.now c.args.id c.name.result [] c.requires c.name.ensures
