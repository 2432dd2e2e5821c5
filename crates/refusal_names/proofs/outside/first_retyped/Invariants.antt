use Rattle.std.proofs.Common.{◌≡◌, drop, map}
use Rattle.cov_ast.specs.View as view
use Rattle.refusal_names.specs.SpokenParts.{type_terms}
use Rattle.refusal_names.specs.OutsideVariables.{first_with_outside}
use Rattle.refusal_names.proofs.outside.first_retyped.Given as goal

-- the first of what is left is the first of all
abbrev pub invariant-loop-retype : goal.invariant-loop-retype
invariant-loop-retype l = first_with_outside l.set (type_terms (map view.retype (drop l.retype-index l.retypes))) ≡ first_with_outside l.set (type_terms (map view.retype l.retypes))
