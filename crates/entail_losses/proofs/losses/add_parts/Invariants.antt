use Rattle.std.proofs.Common.{◌≡◌, ◌++◌, drop, map}
use Rattle.cov_expr.specs.View.{term}
use Rattle.entail_losses.specs.Forgotten.{seen}
use Rattle.entail_losses.proofs.losses.add_parts.Given as goal

abbrev pub invariant-loop-one : goal.invariant-loop-one
invariant-loop-one l = map term l.made ++ map (λ o. o.part) (map seen (drop l.one-index l.parts)) ≡ map term l.fn.made ++ map (λ o. o.part) (map seen l.parts)
