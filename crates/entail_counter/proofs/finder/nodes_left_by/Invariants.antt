use Rattle.std.proofs.Common.{◌≡◌, ◌+◌, drop, map}
use Rattle.cov_expr.specs.Trees.{nodes}
use Rattle.cov_expr.specs.View.{term}
use Rattle.entail_counter.specs.Searching.{total}
use Rattle.entail_counter.proofs.finder.nodes_left_by.Given as goal

-- what is left over, and what those have that were looked at
abbrev pub invariant-loop-h : goal.invariant-loop-h
invariant-loop-h l =
    l.left + nodes (term l.goal) + total (map term l.hyps) ≡ l.most + total (map term (drop l.h-index l.hyps))
