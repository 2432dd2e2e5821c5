use Rattle.std.proofs.Common.{◌≡◌, ◌≤◌, length, map}
use Rattle.cov_grammar.specs.Shapes.{many}
use Rattle.cov_grammar.specs.Reading.{reading}
use Rattle.cov_grammar.proofs.Repeats.{pushed}
use Rattle.level_text.specs.TextGrammar as spec
use Rattle.level_text.specs.TextViews as views
use Rattle.level_text.proofs.reader.read_listings.Given as goal

-- what is still to come, behind the items so far, is the list
abbrev pub invariant-items : goal.invariant-items
invariant-items l = record {
  same : pushed (map views.listing l.list) (reading (many spec.listing) l.reader) ≡ reading (many spec.listing) l.fn.reader;
  shorter : length l.reader ≤ length l.fn.reader;
}

abbrev pub decreases-items : goal.decreases-items
decreases-items l = length l.reader
