use Rattle.std.proofs.Common.{◌≡◌, replicate, false}
use Rattle.typing_state.proofs.groups.Groups.new.Given as goal

abbrev pub invariant-loop-i : goal.invariant-loop-i
invariant-loop-i l = l.sets ≡ replicate l._i (replicate 256 false)
