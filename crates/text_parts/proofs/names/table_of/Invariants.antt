use Rattle.std.proofs.Common.{◌≡◌, ◌++◌, drop, map}
use Rattle.cov_ast.specs.View as view
use Rattle.text_parts.specs.Inside.{AreNew}
use Rattle.text_parts.specs.VariableNames.{variable_names}
use Rattle.text_parts.proofs.names.table_of.Given as goal

-- the names so far and those that are left are all of them, and those that are left are new
abbrev pub invariant-loop-var : goal.invariant-loop-var
invariant-loop-var l = record {
  names : l.names ++ variable_names (map view.var (drop l.var-index l.vars)) ≡ variable_names (map view.var l.vars);
  new : AreNew l.names (variable_names (map view.var (drop l.var-index l.vars)));
}
