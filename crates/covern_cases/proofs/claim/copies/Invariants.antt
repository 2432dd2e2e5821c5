use Rattle.std.proofs.Common.{◌≡◌, ◌++◌, map, drop}
use Rattle.cov_expr.specs.View.{term}
use Rattle.covern_cases.proofs.claim.copies.Given as goal

-- the copies so far, and what is left, are the whole list
abbrev pub invariant-loop-e : goal.invariant-loop-e
invariant-loop-e l = map term l.copied ++ map term (drop l.e-index l.es) ≡ map term l.es
