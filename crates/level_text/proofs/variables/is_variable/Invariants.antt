use Rattle.std.proofs.Common.{◌≡◌, map, drop}
use Rattle.cov_ast.specs.View as program_view
use Rattle.policy_class.specs.Resolved.{is_among, var_names}
use Rattle.level_text.proofs.variables.is_variable.Given as goal

abbrev pub invariant-loop-var : goal.invariant-loop-var
invariant-loop-var l = is_among (map (λ v. v.name) (map program_view.var (drop l.var-index l.p.vars))) l.name ≡ is_among (var_names (program_view.parsed l.p)) l.name
