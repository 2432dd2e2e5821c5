use Rattle.std.proofs.Common.{◌≡◌, ◌++◌, map, drop}
use Rattle.std.specs.List.{position_or_len}
use Rattle.std.specs.Str.{bytes_eq}
use Rattle.cov_ast.specs.View as view
use Rattle.policy_class.specs.Resolved.{var_names, lock_names}
use Rattle.policy_class.proofs.ids.ids_of.Given as goal

abbrev pub invariant-loop-number : goal.invariant-loop-number
invariant-loop-number l = record {
  vars : l.vars ++ map (λ name. position_or_len (bytes_eq name) (var_names (view.parsed l.p))) (drop l.number l.p.names)
      ≡ map (λ name. position_or_len (bytes_eq name) (var_names (view.parsed l.p))) l.p.names;
  locks : l.locks ++ map (λ name. position_or_len (bytes_eq name) (lock_names (view.parsed l.p))) (drop l.number l.p.names)
      ≡ map (λ name. position_or_len (bytes_eq name) (lock_names (view.parsed l.p))) l.p.names;
}
