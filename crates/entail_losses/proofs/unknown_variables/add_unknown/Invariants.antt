use Rattle.std.proofs.Common.{◌≡◌, drop, map}
use Rattle.cov_expr.specs.View.{term}
use Rattle.entail_losses.specs.Unknowns.{with_unknowns}
use Rattle.entail_losses.proofs.unknown_variables.add_unknown.Given as goal

-- what was found so far, and with the rest, is what is found of all
abbrev pub invariant-loop-x : goal.invariant-loop-x
invariant-loop-x l = with_unknowns (map term l.hyps) l.found (drop l.x-index l.all) ≡ with_unknowns (map term l.hyps) l.fn.found l.all
