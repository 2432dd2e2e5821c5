use Rattle.std.proofs.Common.{◌≡◌, ◌≤◌, length, map}
use Rattle.cov_expr.specs.declared.kind.Kind.TheVariants as k
use Rattle.cov_grammar.specs.Shapes.{many}
use Rattle.cov_grammar.specs.Grammar.{◌▸◌, separated, named}
use Rattle.cov_grammar.specs.Reading.{reading}
use Rattle.cov_grammar.proofs.Repeats.{pushed}
use Rattle.level_text.specs.TextViews as views
use Rattle.level_text.proofs.reader.read_names.Given as goal

abbrev pub invariant-items : goal.invariant-items
invariant-items l = record {
  same : pushed (map views.named l.list) (reading (many (k.Comma ▸ named)) l.reader) ≡ reading (separated k.Comma named) l.fn.reader;
  shorter : length l.reader ≤ length l.fn.reader;
}

abbrev pub decreases-items : goal.decreases-items
decreases-items l = length l.reader
