use Rattle.std.proofs.Common.{◌≡◌, length, take}
use Rattle.typing_rules.proofs.kept.cut.Given as goal

-- the first of them stay
abbrev pub invariant-loop-kept : goal.invariant-loop-kept
invariant-loop-kept l = take l.mark l.kept ≡ take l.mark l.fn.kept

abbrev pub decreases-loop-kept : goal.decreases-loop-kept
decreases-loop-kept l = length l.kept
