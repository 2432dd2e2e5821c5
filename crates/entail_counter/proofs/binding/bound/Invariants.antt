use Rattle.std.proofs.Common.{◌≡◌, drop}
use Rattle.entail_counter.specs.Known.{bound}
use Rattle.entail_counter.proofs.binding.bound.Given as goal

-- none so far is of the variable
abbrev pub invariant-loop-b : goal.invariant-loop-b
invariant-loop-b l = bound (drop l.b-index l.m) l.x ≡ bound l.m l.x
