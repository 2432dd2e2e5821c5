use Rattle.std.proofs.Common.{◌≡◌, ◌++◌, [], All, map, drop}
use Rattle.cov_expr.specs.Names.{IsName}
use Rattle.cov_ast.specs.Obligations.{first_false}
use Rattle.policy_class.specs.Inside.DeclaredNames.{declared_name}
use Rattle.policy_class.specs.Resolved.{w1_from}
use Rattle.policy_class.proofs.names.table_of.Given as goal

abbrev pub invariant-loop-declared : goal.invariant-loop-declared
invariant-loop-declared l = record {
  kept : first_false (w1_from l.table (map declared_name (drop l.declared-index l.declarations))) ≡ first_false (w1_from [] (map declared_name l.declarations));
  names : l.table ++ map (λ d. d.name) (drop l.declared-index l.declarations) ≡ map (λ d. d.name) l.declarations;
  texts : All IsName l.table;
}
