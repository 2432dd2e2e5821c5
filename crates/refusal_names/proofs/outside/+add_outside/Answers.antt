use Rattle.cov_expr.specs.Trees.{occurrences}
use Rattle.cov_expr.specs.View.{term}
use Rattle.cov_expr.proofs.View.{term-Bin}
use Rattle.refusal_names.proofs.OutsideLaws.{both_outside}
use Rattle.refusal_names.proofs.outside.+add_outside.Goals as goal

pub returns-in_ok-add_outside-in-Bin : goal.returns-in_ok-add_outside-in-Bin
returns-in_ok-add_outside-in-Bin t c =
    rw (c.in-Bin.is, term-Bin, ← c.deref-in-Bin.ensures, ← c.deref-in-Bin-2.ensures)
    (both_outside c.add_outside-in-Bin-2.result c.args.set.now c.args.found.now c.add_outside-in-Bin.new.found c.add_outside-in-Bin-2.new.found
    (occurrences (term c.deref-in-Bin.result.now)) (occurrences (term c.deref-in-Bin-2.result.now))
    c.in_ok-add_outside-in-Bin.ensures c.add_outside-in-Bin-2.ensures)
