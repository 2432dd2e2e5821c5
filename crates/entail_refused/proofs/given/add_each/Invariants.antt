use Rattle.std.proofs.Common.{◌≡◌, ◌++◌, drop, flat_map, map}
use Rattle.cov_ast.specs.View as view
use Rattle.entail_refused.specs.GivenElsewhere.{number_text}
use Rattle.entail_refused.proofs.given.add_each.Given as goal

-- what is written, and what is left, are all of them
abbrev pub invariant-loop-proof : goal.invariant-loop-proof
invariant-loop-proof l =
    l.text ++ flat_map number_text (map view.proof (drop l.proof-index l.proofs)) ≡ l.fn.text ++ flat_map number_text (map view.proof l.proofs)
