use Rattle.std.proofs.Common.{◌≡◌, map, drop}
use Rattle.explain.specs.ExpectedLines.{spelling_among}
use Rattle.explain.proofs.line.spelling_among.Given as goal

-- what the spellings that are left say, all of them say
abbrev pub invariant-loop-spelling : goal.invariant-loop-spelling
invariant-loop-spelling l =
    spelling_among (map (λ s. (s.0.now, s.1)) (drop l.spelling-index l.spellings)) l.kind ≡ spelling_among (map (λ s. (s.0.now, s.1)) l.spellings) l.kind
