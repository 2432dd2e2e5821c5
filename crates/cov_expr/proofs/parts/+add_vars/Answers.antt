use Rattle.cov_expr.specs.Trees.{occurrences}
use Rattle.cov_expr.specs.View.{term}
use Rattle.cov_expr.proofs.View.{term-Bin}
use Rattle.cov_expr.proofs.Trees.{add_new-both}
use Rattle.cov_expr.proofs.parts.+add_vars.Goals as goal

pub returns-in_ok-add_vars-in-Bin-2 : goal.returns-in_ok-add_vars-in-Bin-2
returns-in_ok-add_vars-in-Bin-2 t c =
    rw (c.in-Bin.is, term-Bin, ← c.deref-in-Bin.ensures, ← c.deref-in-Bin-2.ensures)
    (add_new-both c.args.found.now c.add_vars-in-Bin.new.found c.add_vars-in-Bin-2.new.found
    (occurrences (term c.deref-in-Bin.result.now)) (occurrences (term c.deref-in-Bin-2.result.now))
    c.in_ok-add_vars-in-Bin.ensures c.in_ok-add_vars-in-Bin-2.ensures)
