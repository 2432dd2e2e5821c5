use Rattle.std.proofs.Common.{◌≡◌, map, take}
use Rattle.cov_expr.specs.View.{term}
use Rattle.entail_cert.specs.HeldTerms.{held_term}
use Rattle.entail_text.proofs.node.lent.Given as goal

-- the hypotheses so far
abbrev pub invariant-loop-h : goal.invariant-loop-h
invariant-loop-h l = map held_term l.made ≡ map term (take l.h-index l.hyps)
