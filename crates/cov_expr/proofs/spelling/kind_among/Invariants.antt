use Rattle.std.proofs.Common.{◌≡◌, map, drop}
use Rattle.cov_expr.specs.Spellings as spec
use Rattle.cov_expr.proofs.spelling.kind_among.Given as goal

-- what the spellings that are left say, all of them say
abbrev pub invariant-loop-spelling : goal.invariant-loop-spelling
invariant-loop-spelling l = spec.kind_among (map (λ s. (s.0.now, s.1)) (drop l.spelling-index l.spellings)) l.text ≡ spec.kind_among (map (λ s. (s.0.now, s.1)) l.spellings) l.text
