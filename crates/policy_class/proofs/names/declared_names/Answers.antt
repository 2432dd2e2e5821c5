use Rattle.cov_ast.specs.View as view
use Rattle.policy_class.proofs.NameLaws.{table_is}
use Rattle.policy_class.proofs.names.declared_names.Goals as goal

pub returns-clause-table : goal.returns-clause-table
returns-clause-table c =
    let same = c.as_slice.ensures in
    table_is (view.parsed c.args.p.now) c.in_ok-declarations.declarations c.table_of.result c.in_ok-declarations.ensures
    (rw same at c.table_of.ensures.decided) (rw same at c.table_of.ensures.names) c.table_of.ensures.texts
