use Rattle.std.proofs.Common.{◌≡◌, map, drop}
use Rattle.std.specs.List.{list_any}
use Rattle.cov_expr.specs.View.{term}
use Rattle.entail_cert.specs.Valid.{is_false}
use Rattle.entail_cert.proofs.known.has_false.Given as goal

-- none so far
abbrev pub invariant-loop-e : goal.invariant-loop-e
invariant-loop-e l = list_any is_false (map term (drop l.e-index l.es)) ≡ list_any is_false (map term l.es)
