use Rattle.std.proofs.Common.{◌≡◌, drop, map}
use Rattle.cov_expr.specs.View.{term}
use Rattle.entail_counter.specs.Free as spec
use Rattle.entail_counter.proofs.free.fewest.Given as goal

-- what is left, beside the fewest so far
abbrev pub invariant-loop-h : goal.invariant-loop-h
invariant-loop-h l = spec.fewest l.found (map term (drop l.h-index l.hyps)) l.m ≡ spec.fewest l.fn.first (map term l.hyps) l.m
