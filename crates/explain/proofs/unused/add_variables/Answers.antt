use Rattle.std.proofs.Common.{◌≡◌, ◌<◌, ◌++◌, length, map, ap, ◌∙◌, subst}
use Rattle.cov_ast.proofs.TableLaws.{table_at}
use Rattle.cov_ast.specs.Plain.{plain}
use Rattle.cov_ast.specs.Tables.{has}
use Rattle.cov_ast.specs.View as view
use Rattle.explain.specs.Unused.{of_variables}
use Rattle.explain.specs.StatementUses.{has_reader, has_writer}
use Rattle.explain.proofs.VariableLaws.{variables_go_on}
use Rattle.explain.proofs.unused.add_variables.Goals as goal

pub loop-x-preserved : goal.loop-x-preserved
loop-x-preserved c =
    let p = plain (view.program c.args.program.now) in
    let vs = c.args.program.now.vars in
    let items = c.as_slice-var-items.result.now in
    let x = c.loop-x.x in
    let inside : x < length vs = subst (λ ys. x < length ys) c.as_slice-var-items.ensures c.loop-x-test.true in
    let reads : c.has_index-read.result ≡ has_reader p x = c.has_index-read.ensures ∙ ap (λ marks. has marks x) c.requires.read ∙ table_at (length vs) (has_reader p) x inside in
    let writes : c.has_index-written.result ≡ has_writer p x =
    c.has_index-written.ensures ∙ ap (λ marks. has marks x) c.requires.written ∙ table_at (length vs) (has_writer p) x inside in
    variables_go_on p vs items x c.var-item.result c.loop-x.found c.add_use.new.found (c.args.found.now ++ of_variables p 0 (map view.var vs))
    c.has_index-read.result c.has_index-written.result c.as_slice-var-items.ensures c.loop-x-test.true c.var-item.is reads writes c.loop-x.invariant c.in_ok-add_use.ensures
