use Rattle.std.proofs.Common.{◌≡◌, [], map, drop}
use Rattle.entail_range.specs.Range.{lent}
use Rattle.entail_search.specs.Readings as spec
use Rattle.entail_search.specs.View.{fact}
use Rattle.entail_search.proofs.readings.gathered.Given as goal

-- those so far, and then those of the rest, are all
abbrev pub invariant-loop-h : goal.invariant-loop-h
invariant-loop-h l = spec.gathered_each l.n (map fact l.facts) (map lent (drop l.h-index l.hyps)) ≡ spec.gathered_each l.n [] (map lent l.hyps)
