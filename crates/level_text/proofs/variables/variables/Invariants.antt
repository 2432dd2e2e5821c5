use Rattle.std.proofs.Common.{◌≡◌, ◌++◌, map, drop}
use Rattle.level_text.specs.TextFaults as spec
use Rattle.level_text.specs.TextViews as views
use Rattle.level_text.proofs.variables.variables.Given as goal

abbrev pub invariant-loop-token : goal.invariant-loop-token
invariant-loop-token l = map views.named l.list ++ spec.variables_behind l.before (drop l.token-index l.tokens) ≡ spec.variables_of l.tokens
