use Rattle.std.proofs.Common.{◌≡◌, map, take}
use Rattle.cov_expr.specs.View.{term}
use Rattle.typing_state.specs.Keys.{key}
use Rattle.typing_state.proofs.keys.keys_of.Given as goal

abbrev pub invariant-loop-e : goal.invariant-loop-e
invariant-loop-e l = l.made.keys ≡ map key (map term (take l.e-index l.list))
