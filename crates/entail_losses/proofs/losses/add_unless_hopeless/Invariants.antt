use Rattle.std.proofs.Common.{◌≡◌, ◌++◌, drop, map}
use Rattle.cov_expr.specs.View.{term}
use Rattle.entail_losses.specs.LeftOut.{seen}
use Rattle.entail_losses.proofs.losses.add_unless_hopeless.Given as goal

abbrev pub invariant-loop-one : goal.invariant-loop-one
invariant-loop-one l = map term l.more ++ map (λ o. o.term) (map seen (drop l.one-index l.found)) ≡ map term l.initial.more ++ map (λ o. o.term) (map seen l.found)
