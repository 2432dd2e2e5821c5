use Rattle.std.proofs.Common.{sym}
use Rattle.annotate.proofs.GoingLaws.{gone_nothing}
use Rattle.annotate.proofs.uses.Uses.option.Goals as goal

pub returns-in-None : goal.returns-in-None
returns-in-None c = rw c.in-None.is (sym (gone_nothing _ _))
