use Rattle.std.proofs.Common.{◌≡◌, ◌+◌, ◌≤◌, drop, length}
use Rattle.explain.specs.HiddenText as spec
use Rattle.explain.proofs.hidden.count_from.Given as goal

-- those so far and those of the rest are all; there are no more of them than bytes
abbrev pub invariant-loop-i : goal.invariant-loop-i
invariant-loop-i l =
    (l.count + length (spec.hidden_from l.i (drop l.i l.bytes)) ≡ length (spec.hidden_from l.start (drop l.start l.bytes))) × (l.count ≤ l.i)
