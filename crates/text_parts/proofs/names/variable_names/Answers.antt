use Rattle.std.proofs.Common.{◌++◌, map, arith}
use Rattle.std.proofs.lemmas.List.{length-map}
use Rattle.cov_ast.specs.View as view
use Rattle.text_parts.specs.VariableNames.{variable_names}
use Rattle.text_parts.proofs.NameLaws.{distinct_front, all_new}
use Rattle.text_parts.proofs.names.variable_names.Goals as goal

pub table_of-requires-clause-few : goal.table_of-requires-clause-few
table_of-requires-clause-few c = rw c.as_slice.ensures (omega (arith, length-map c.args.p.now.vars view.var, c.requires.limits.variables))

pub table_of-requires-clause-differ : goal.table_of-requires-clause-differ
table_of-requires-clause-differ c =
    let p = view.program c.args.p.now in
    let locks = map (λ l. l.name) p.locks in
    let threads = map (λ t. t.name) p.threads in
    rw c.as_slice.ensures
    (all_new (variable_names p.vars)
    (distinct_front (variable_names p.vars) locks (distinct_front (variable_names p.vars ++ locks) threads c.requires.names_differ)))
