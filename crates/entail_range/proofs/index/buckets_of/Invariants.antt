use Rattle.std.proofs.Common.{map, take, ◌++◌}
use Rattle.cov_expr.specs.View.{term}
use Rattle.entail_range.specs.Inside.Index.{FindsAll, terms}
use Rattle.entail_range.specs.Range.{lent}
use Rattle.entail_range.proofs.index.buckets_of.Given as goal

-- those looked at are put at their slots
abbrev pub invariant-loop-h : goal.invariant-loop-h
invariant-loop-h l = FindsAll (terms l.buckets.items) (map term (take l.h-index l.given))

abbrev pub invariant-loop-h-2 : goal.invariant-loop-h-2
invariant-loop-h-2 l = FindsAll (terms l.buckets.items) (map term l.given ++ map lent (take l.h-index l.more))
