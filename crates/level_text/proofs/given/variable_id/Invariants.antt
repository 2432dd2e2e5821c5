use Rattle.std.proofs.Common.{◌≡◌, ◌+◌, map, drop}
use Rattle.std.specs.List.{position_or_len}
use Rattle.std.specs.Str.{bytes_eq}
use Rattle.cov_ast.specs.View as program_view
use Rattle.policy_class.specs.Resolved.{var_names}
use Rattle.level_text.proofs.given.variable_id.Given as goal

abbrev pub invariant-loop-var : goal.invariant-loop-var
invariant-loop-var l = record {
  counted : l.place ≡ l.var-index;
  kept : l.place + position_or_len (bytes_eq l.name) (map (λ v. v.name) (map program_view.var (drop l.var-index l.p.vars))) ≡ position_or_len (bytes_eq l.name) (var_names (program_view.parsed l.p));
}
