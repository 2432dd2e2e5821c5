use Rattle.std.proofs.Common.{◌≡◌, map, drop}
use Rattle.cov_grammar.specs.PlacedTrees.{stms}
use Rattle.cov_text.specs.Limits as spec
use Rattle.cov_parse.specs.Inside.Measures.{counted}
use Rattle.cov_read.specs.StmtViews as views
use Rattle.cov_parse.proofs.counts.+count.Given as goal

abbrev pub invariant-count_stmts-loop-stmt : goal.invariant-count_stmts-loop-stmt
invariant-count_stmts-loop-stmt l =
    counted l.left (spec.places (stms (map views.stmt (drop l.stmt-index l.body)))) ≡ counted l.fn.room (spec.places (stms (map views.stmt l.body)))
