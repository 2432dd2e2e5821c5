use Rattle.cov_parse.proofs.BlockLaws.{numbers_same}
use Rattle.cov_parse.proofs.programs.modes_of.Goals as goal

pub returns : goal.returns
returns c = simp numbers_same
