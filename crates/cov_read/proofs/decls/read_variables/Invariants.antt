use Rattle.std.proofs.Common.{◌≡◌, ◌≤◌, length, map}
use Rattle.cov_grammar.specs.Shapes.{many}
use Rattle.cov_grammar.specs.Reading.{reading}
use Rattle.cov_grammar.specs.Grammar as spec
use Rattle.cov_read.specs.DeclViews as views
use Rattle.cov_grammar.proofs.Repeats.{pushed}
use Rattle.cov_read.proofs.decls.read_variables.Given as goal

-- what is still to come, behind the items so far, is the list
abbrev pub invariant-items : goal.invariant-items
invariant-items l = record {
  same : pushed (map views.var l.list) (reading (many spec.var_decl) l.reader) ≡ reading (many spec.var_decl) l.fn.reader;
  shorter : length l.reader ≤ length l.fn.reader;
}

abbrev pub decreases-items : goal.decreases-items
decreases-items l = length l.reader
