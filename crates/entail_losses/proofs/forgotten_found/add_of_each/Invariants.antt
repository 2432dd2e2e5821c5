use Rattle.std.proofs.Common.{◌≡◌, drop, map}
use Rattle.cov_expr.specs.View.{term}
use Rattle.entail_losses.specs.Forgotten.{seen, with_wholes}
use Rattle.entail_origins.specs.GivenViews.{given}
use Rattle.entail_losses.specs.LeftOut as left
use Rattle.entail_losses.proofs.forgotten_found.add_of_each.Given as goal

-- what was found so far, and with the rest, is what is found of all
abbrev pub invariant-loop-one : goal.invariant-loop-one
invariant-loop-one l =
    with_wholes (map term l.hypotheses) (map left.seen l.left_out) l.steady l.kept l.at l.state (map given (drop l.one-index l.all)) (map seen l.found)
    ≡ with_wholes (map term l.hypotheses) (map left.seen l.left_out) l.steady l.kept l.at l.state (map given l.all) (map seen l.fn.found)
