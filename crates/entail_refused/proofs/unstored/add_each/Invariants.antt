use Rattle.std.proofs.Common.{◌≡◌, drop, option_map}
use Rattle.entail_refused.specs.Unstored.{with_each}
use Rattle.entail_refused.proofs.unstored.add_each.Given as goal

-- what was found so far, and with the rest, is what is found of all
abbrev pub invariant-loop-x : goal.invariant-loop-x
invariant-loop-x l =
    let within = option_map (λ s. s.now) l.within in
    let also = option_map (λ s. s.now) l.also in
    with_each within also l.without l.found (drop l.x-index l.xs) ≡ with_each within also l.without l.fn.found l.xs
