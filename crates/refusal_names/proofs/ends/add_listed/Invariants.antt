use Rattle.std.proofs.Common.{◌≡◌, ◌++◌, drop, codes, flat_map}
use Rattle.refusal_names.specs.NameLines as spec
use Rattle.refusal_names.proofs.ends.add_listed.Given as goal

-- what is written, and the names that are left, are all of it
abbrev pub invariant-loop-name : goal.invariant-loop-name
invariant-loop-name l =
    l.text ++ flat_map (λ m. codes ", " ++ m) (drop l.name-index l.rest) ≡ l.fn.text ++ spec.listed_names l.names
