use Rattle.std.proofs.Common.{◌∙◌, ap, sym}
use Rattle.std.specs.Option.{option_or}
use Rattle.cov_expr.specs.Trees.{occurrences}
use Rattle.cov_expr.specs.View.{term}
use Rattle.cov_expr.proofs.View.{term-Bin}
use Rattle.cov_ast.specs.Tables.{first_outside}
use Rattle.cov_ast.proofs.TableLaws.{outside_append}
use Rattle.cov_ast.proofs.sets.+first_outside.Goals as goal

pub returns-in-Some : goal.returns-in-Some
returns-in-Some t c =
    rw (c.in-Bin.is, term-Bin, ← c.deref-in-Bin.ensures)
    (ap (λ o. option_or o (first_outside c.args.set.now (occurrences (term c.in-Bin.b.value)))) c.in-Some.ensures
    ∙ sym (outside_append c.args.set.now (occurrences (term c.deref-in-Bin.result.now)) (occurrences (term c.in-Bin.b.value))))

pub returns-in-None : goal.returns-in-None
returns-in-None t c =
    rw (c.in-Bin.is, term-Bin, ← c.deref-in-Bin.ensures, ← c.deref-in-None.ensures)
    (ap (λ o. option_or o c.first_outside-in-None.result) c.in-None.ensures
    ∙ ap (option_or (first_outside c.args.set.now (occurrences (term c.deref-in-Bin.result.now)))) c.first_outside-in-None.ensures
    ∙ sym (outside_append c.args.set.now (occurrences (term c.deref-in-Bin.result.now)) (occurrences (term c.deref-in-None.result.now))))
