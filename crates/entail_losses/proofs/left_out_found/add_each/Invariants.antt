use Rattle.std.proofs.Common.{◌≡◌, drop, map}
use Rattle.cov_expr.specs.View.{term}
use Rattle.entail_origins.specs.GivenViews.{given}
use Rattle.entail_losses.specs.LeftOut.{seen, with_each}
use Rattle.entail_losses.proofs.left_out_found.add_each.Given as goal

-- what was found so far, and with the rest, is what is found of all
abbrev pub invariant-loop-one : goal.invariant-loop-one
invariant-loop-one l =
    with_each (map term l.hypotheses) l.kept l.at l.states (map given (drop l.one-index l.all)) (map seen l.found)
    ≡ with_each (map term l.hypotheses) l.kept l.at l.states (map given l.all) (map seen l.fn.found)
