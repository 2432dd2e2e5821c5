use Rattle.std.proofs.Common.{◌++◌, refl}
use Rattle.cov_expr.specs.Trees.{occurrences}
use Rattle.cov_expr.specs.View.{term}
use Rattle.cov_expr.proofs.View.{term-Bin}
use Rattle.statement_parts.proofs.AssignedLaws.{added_of}
use Rattle.explain.proofs.uses.+add_read.Goals as goal

pub returns-in-Bin : goal.returns-in-Bin
returns-in-Bin t c =
    rw (c.in-Bin.is, term-Bin, ← c.deref-in-Bin.ensures, ← c.deref-in-Bin-2.ensures)
    (added_of c.args.read.now c.add_read-in-Bin.new.read c.add_read-in-Bin-2.new.read
    (occurrences (term c.deref-in-Bin.result.now) ++ occurrences (term c.deref-in-Bin-2.result.now))
    (occurrences (term c.deref-in-Bin.result.now)) (occurrences (term c.deref-in-Bin-2.result.now))
    refl c.add_read-in-Bin.ensures c.add_read-in-Bin-2.ensures)
