use Rattle.cov_print.proofs.PrintLaws.{spells_in_second}
use Rattle.cov_print.proofs.laws.second_version_is_read.Goals as goal

pub returns : goal.returns
returns c = λ p. spells_in_second p
