use Rattle.std.proofs.Common.{◌≡◌, drop, map}
use Rattle.cov_ast.specs.View as view
use Rattle.entail_origins.specs.TypeOrigins as spec
use Rattle.entail_origins.proofs.type_steps.is_retyped.Given as goal

-- none of the new types so far is that of the variable
abbrev pub invariant-loop-retype : goal.invariant-loop-retype
invariant-loop-retype l = spec.is_listed (map view.retype (drop l.retype-index l.retypes)) l.z ≡ spec.is_listed (map view.retype l.retypes) l.z
