use Rattle.std.proofs.Common.{◌≡◌, map, drop}
use Rattle.cov_grammar.specs.PlacedTrees.{stms}
use Rattle.cov_text.specs.Limits as spec
use Rattle.cov_read.specs.StmtViews as views
use Rattle.cov_parse.proofs.limits.+block.Given as goal

abbrev pub invariant-in_stms-loop-stmt : goal.invariant-in_stms-loop-stmt
invariant-in_stms-loop-stmt l =
    spec.sooner l.found (spec.in_stms l.room (stms (map views.stmt (drop l.stmt-index l.body)))) ≡ spec.in_stms l.room (stms (map views.stmt l.body))
