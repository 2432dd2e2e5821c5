use Rattle.std.proofs.Common.{◌≡◌, map, drop}
use Rattle.cov_expr.specs.View.{term}
use Rattle.entail_cert.specs.Valid.{is_known}
use Rattle.entail_cert.proofs.known.knows.Given as goal

-- none so far
abbrev pub invariant-loop-h : goal.invariant-loop-h
invariant-loop-h l = is_known (map term (drop l.h-index l.hyps)) (term l.e) ≡ is_known (map term l.hyps) (term l.e)
