use Rattle.std.proofs.Common.{◌≡◌, ◌==◌, drop, map}
use Rattle.std.specs.List.{list_any}
use Rattle.cov_ast.specs.View as view
use Rattle.level_text.proofs.stands.in_retypes.Given as goal

abbrev pub invariant-loop-retype : goal.invariant-loop-retype
invariant-loop-retype l = list_any (λ t. t.0 == l.m) (map view.retype (drop l.retype-index l.retypes)) ≡ list_any (λ t. t.0 == l.m) (map view.retype l.retypes)
