use Rattle.std.proofs.Common.{◌≡◌, drop, map}
use Rattle.cov_expr.specs.View.{term}
use Rattle.entail_losses.specs.Unknowns.{first_about}
use Rattle.entail_losses.proofs.unknown_reasons.first_about.Given as goal

-- the first of what is left is the first of all
abbrev pub invariant-loop-e : goal.invariant-loop-e
invariant-loop-e l = first_about l.x (map term (drop l.e-index l.preds)) ≡ first_about l.x (map term l.preds)
