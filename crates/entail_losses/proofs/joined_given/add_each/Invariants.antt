use Rattle.std.proofs.Common.{◌≡◌, drop, map}
use Rattle.entail_losses.specs.Joined.{seen, with_still_given}
use Rattle.entail_origins.specs.GivenViews.{given}
use Rattle.entail_losses.proofs.joined_given.add_each.Given as goal

-- what was found so far, and with the rest, is what is found of all
abbrev pub invariant-loop-one : goal.invariant-loop-one
invariant-loop-one l = with_still_given l.kept l.at (map given (drop l.one-index l.all)) (map seen l.found) ≡ with_still_given l.kept l.at (map given l.all) (map seen l.fn.found)
