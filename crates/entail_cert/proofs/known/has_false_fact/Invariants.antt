use Rattle.std.proofs.Common.{◌≡◌, map, drop}
use Rattle.std.specs.List.{list_any}
use Rattle.entail_cert.specs.HeldTerms.{held_term}
use Rattle.entail_cert.specs.Valid.{is_false}
use Rattle.entail_cert.proofs.known.has_false_fact.Given as goal

-- none so far
abbrev pub invariant-loop-f : goal.invariant-loop-f
invariant-loop-f l = list_any is_false (map held_term (drop l.f-index l.facts)) ≡ list_any is_false (map held_term l.facts)
