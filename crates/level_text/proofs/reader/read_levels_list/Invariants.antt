use Rattle.std.proofs.Common.{◌≡◌, ◌≤◌, length, map}
use Rattle.cov_grammar.specs.Shapes.{many}
use Rattle.cov_grammar.specs.Reading.{reading}
use Rattle.cov_grammar.proofs.Repeats.{pushed}
use Rattle.level_text.specs.TextGrammar as spec
use Rattle.level_text.specs.TextViews as views
use Rattle.level_text.proofs.reader.read_levels_list.Given as goal

abbrev pub invariant-items : goal.invariant-items
invariant-items l = record {
  same : pushed (map views.level l.list) (reading (many spec.level) l.reader) ≡ reading spec.levels l.fn.reader;
  shorter : length l.reader ≤ length l.fn.reader;
}

abbrev pub decreases-items : goal.decreases-items
decreases-items l = length l.reader
