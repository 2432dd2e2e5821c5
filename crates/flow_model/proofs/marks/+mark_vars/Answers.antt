use Rattle.std.proofs.Common.{◌∙◌, ap, sym}
use Rattle.cov_expr.specs.Trees.{occurrences}
use Rattle.cov_expr.specs.View.{term}
use Rattle.cov_expr.proofs.View.{term-Bin}
use Rattle.cov_ast.specs.Tables.{with_all}
use Rattle.cov_ast.proofs.TableLaws.{with_all_append}
use Rattle.flow_model.proofs.marks.+mark_vars.Goals as goal

pub returns-in-Bin : goal.returns-in-Bin
returns-in-Bin t c =
    rw (c.in-Bin.is, term-Bin, ← c.deref-in-Bin.ensures, ← c.deref-in-Bin-2.ensures)
    (c.mark_vars-in-Bin-2.ensures
    ∙ ap (λ m. with_all m (occurrences (term c.deref-in-Bin-2.result.now))) c.mark_vars-in-Bin.ensures
    ∙ sym (with_all_append c.args.marks.now (occurrences (term c.deref-in-Bin.result.now)) (occurrences (term c.deref-in-Bin-2.result.now))))
