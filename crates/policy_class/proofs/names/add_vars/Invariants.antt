use Rattle.std.proofs.Common.{◌≡◌, ◌++◌, map, drop}
use Rattle.cov_ast.specs.View as view
use Rattle.policy_class.specs.Inside.DeclaredNames.{declared_name}
use Rattle.policy_class.specs.Resolved.{var_named}
use Rattle.policy_class.proofs.names.add_vars.Given as goal

abbrev pub invariant-loop-var : goal.invariant-loop-var
invariant-loop-var l =
    map declared_name l.made ++ map var_named (map view.var (drop l.var-index l.vars)) ≡ map declared_name l.initial.made ++ map var_named (map view.var l.vars)
