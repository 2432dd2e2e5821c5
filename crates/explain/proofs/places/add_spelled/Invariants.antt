use Rattle.std.proofs.Common.{◌≡◌, ◌++◌, drop, map}
use Rattle.std.specs.List.{filter}
use Rattle.explain.specs.ExpectedTokens.{of_kinds}
use Rattle.explain.specs.Inside.Following.{could_follow}
use Rattle.explain.proofs.places.add_spelled.Given as goal

-- those found so far, and those among the spellings that are left, are all of them
abbrev pub invariant-loop-kind : goal.invariant-loop-kind
invariant-loop-kind l =
    (l.tokens ≡ l.fn.tokens)
    × (l.found ++ filter (could_follow l.fn.tokens) (of_kinds (map (λ s. (s.0.now, s.1)) (drop l.kind-index l.spellings)))
    ≡ l.fn.found ++ filter (could_follow l.fn.tokens) (of_kinds (map (λ s. (s.0.now, s.1)) l.spellings)))
