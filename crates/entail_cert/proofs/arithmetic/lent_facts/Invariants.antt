use Rattle.std.proofs.Common.{◌≡◌, map, take}
use Rattle.entail_range.specs.Range.{lent}
use Rattle.entail_cert.specs.HeldTerms.{held_term}
use Rattle.entail_cert.proofs.arithmetic.lent_facts.Given as goal

abbrev pub invariant-loop-f : goal.invariant-loop-f
invariant-loop-f l = map lent l.made ≡ map held_term (take l.f-index l.facts)
