use Rattle.std.proofs.Common.{◌≡◌, map, drop}
use Rattle.std.specs.List.{list_any}
use Rattle.cov_expr.specs.Trees.{mentions}
use Rattle.cov_expr.specs.View.{term}
use Rattle.entail_search.proofs.within.any_mentions.Given as goal

-- none so far
abbrev pub invariant-loop-h : goal.invariant-loop-h
invariant-loop-h l = list_any (λ h. mentions h l.x) (map term (drop l.h-index l.hyps)) ≡ list_any (λ h. mentions h l.x) (map term l.hyps)
