use Rattle.std.proofs.Common.{◌≡◌, ◌++◌, drop}
use Rattle.typing_state.proofs.groups.Groups.copy.Given as goal

abbrev pub invariant-loop-set : goal.invariant-loop-set
invariant-loop-set l = l.sets ++ drop l.set-index l.self ≡ l.self
