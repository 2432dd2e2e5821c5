use Rattle.std.proofs.Common.{◌≡◌, ◌++◌, map, drop}
use Rattle.std.specs.List.{position_or_len}
use Rattle.std.specs.Str.{bytes_eq}
use Rattle.cov_ast.specs.View as program_view
use Rattle.policy_class.specs.Resolved.{var_names}
use Rattle.level_text.proofs.given.variable_ids.Given as goal

abbrev pub invariant-loop-number : goal.invariant-loop-number
invariant-loop-number l = l.ids ++ map (λ name. position_or_len (bytes_eq name) (var_names (program_view.parsed l.p))) (drop l.number l.names) ≡ map (λ name. position_or_len (bytes_eq name) (var_names (program_view.parsed l.p))) l.names
