use Rattle.std.proofs.Common.{◌≡◌, map, drop}
use Rattle.cov_expr.specs.View.{term}
use Rattle.entail_cert.specs.HeldTerms.{held_term}
use Rattle.entail_cert.specs.Valid.{is_known}
use Rattle.entail_cert.proofs.known.knows_fact.Given as goal

-- none so far
abbrev pub invariant-loop-f : goal.invariant-loop-f
invariant-loop-f l = is_known (map held_term (drop l.f-index l.facts)) (term l.e) ≡ is_known (map held_term l.facts) (term l.e)
