use Rattle.std.proofs.Common.{◌≡◌, drop, map}
use Rattle.cov_expr.specs.View.{term}
use Rattle.entail_losses.specs.Joined as joined
use Rattle.entail_losses.specs.LeftOut as left
use Rattle.entail_losses.proofs.joined_found.add_unjoined.Given as goal

-- what was found so far, and with the rest, is what is found of all
abbrev pub invariant-loop-one : goal.invariant-loop-one
invariant-loop-one l =
    let hyps = map term l.hypotheses in
    let second = map (λ g. g.term) (map joined.seen l.branch.second.now) in
    let listed = map term l.branch.listed.now in
    joined.with_unjoined hyps second listed l.branch.states (map joined.seen (drop l.one-index l.first)) (map left.seen l.found)
    ≡ joined.with_unjoined hyps second listed l.branch.states (map joined.seen l.first) (map left.seen l.fn.found)
