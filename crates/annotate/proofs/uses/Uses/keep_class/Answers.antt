use Rattle.std.proofs.Common.{sym}
use Rattle.annotate.proofs.GoingLaws.{gone_nothing}
use Rattle.annotate.proofs.uses.Uses.keep_class.Goals as goal

pub returns-in-Low : goal.returns-in-Low
returns-in-Low c = rw c.in-Low.is (sym (gone_nothing _ _))

pub returns-in-High : goal.returns-in-High
returns-in-High c = rw c.in-High.is (sym (gone_nothing _ _))
