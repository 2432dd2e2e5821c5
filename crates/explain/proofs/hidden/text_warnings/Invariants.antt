use Rattle.std.proofs.Common.{◌≡◌, ◌++◌, drop}
use Rattle.explain.specs.HiddenText as spec
use Rattle.explain.proofs.hidden.text_warnings.Given as goal

-- what is found, and what is told of the rest, is all of it
abbrev pub invariant-loop-i : goal.invariant-loop-i
invariant-loop-i l = l.found ++ spec.listed l.room (spec.hidden_from l.i (drop l.i l.bytes)) ≡ spec.text_warnings l.bytes
