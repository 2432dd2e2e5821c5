use Rattle.std.proofs.Common.{◌≡◌, drop, map}
use Rattle.cov_ast.specs.View as view
use Rattle.entail_origins.specs.TypeOrigins as spec
use Rattle.entail_origins.proofs.type_steps.is_listed.Given as goal

-- none of the types so far is that of the variable
abbrev pub invariant-loop-listed : goal.invariant-loop-listed
invariant-loop-listed l = spec.is_listed (map view.typed (drop l.listed-index l.types)) l.z ≡ spec.is_listed (map view.typed l.types) l.z
