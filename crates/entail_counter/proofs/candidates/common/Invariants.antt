use Rattle.std.proofs.Common.{◌≡◌, drop, map}
use Rattle.cov_expr.specs.View.{term}
use Rattle.entail_counter.specs.Candidates.{with_all_numbers}
use Rattle.entail_counter.proofs.candidates.common.Given as goal

-- what is left is added to what is there
abbrev pub invariant-loop-h : goal.invariant-loop-h
invariant-loop-h l = with_all_numbers l.found (map term (drop l.h-index l.hyps)) ≡ with_all_numbers l.initial.found (map term l.hyps)
