use Rattle.std.proofs.Common.{◌≡◌, length, take}
use Rattle.typing_state.proofs.predicates.Predicates.truncate.Given as goal

abbrev pub invariant-loop-end : goal.invariant-loop-end
invariant-loop-end l = (length l.self ≡ l.end) × (take l.len l.self ≡ take l.len l.fn.self)

abbrev pub decreases-loop-end : goal.decreases-loop-end
decreases-loop-end l = l.end
