use Rattle.std.proofs.Common.{◌∙◌, sym, map, arith}
use Rattle.std.proofs.lemmas.Result.{err_from_is_err_and}
use Rattle.cov_grammar.specs.Shapes.{placed}
use Rattle.cov_grammar.specs.Reading.{reading}
use Rattle.cov_grammar.specs.Grammar as spec
use Rattle.cov_read.specs.StmtViews as views
use Rattle.cov_grammar.proofs.Repeats.{item_goes, item_ends, item_breaks}
use Rattle.cov_read.proofs.StmtLaws.{statement_item}
use Rattle.cov_grammar.proofs.Stops.{stop_onward}
use Rattle.cov_read.proofs.stmts.+block.Goals as goal

pub read_body-returns-in_err-next-clause-reads : goal.read_body-returns-in_err-next-clause-reads
read_body-returns-in_err-next-clause-reads t c =
    let p = err_from_is_err_and c.from_residual.result c.from_residual.ensures.1 in
    rw (p.1, p.2)
    (stop_onward views.stmt (map views.stmt) _ c.read_stmt.new.reader (reading (placed spec.statement) c.items.reader) _
    (λ e. sym c.items.invariant.same ∙ item_breaks views.stmt (placed spec.statement) _ statement_item c.items.list c.items.reader c.read_stmt.new.reader (sym c.at_any.ensures ∙ c.items-test.true) e)
    c.in_err-next.ensures.reads)

pub read_body-items-preserved : goal.read_body-items-preserved
read_body-items-preserved t c = record {
  same =
      item_goes views.stmt (placed spec.statement) _ statement_item c.items.list c.push.new.self c.in_ok-next.next c.items.reader c.read_stmt.new.reader (sym c.at_any.ensures ∙ c.items-test.true) c.in_ok-next.ensures.reads c.in_ok-push.ensures.ok
      ∙ c.items.invariant.same;
  shorter = omega (arith, c.in_ok-next.ensures.shorter, c.items.invariant.shorter);
}

pub read_body-returns-clause-reads : goal.read_body-returns-clause-reads
read_body-returns-clause-reads t c =
    sym c.items.invariant.same ∙ item_ends views.stmt (placed spec.statement) _ statement_item c.items.list c.items.reader (sym c.at_any.ensures ∙ c.items-test.false)
