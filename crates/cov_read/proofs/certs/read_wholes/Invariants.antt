use Rattle.std.proofs.Common.{◌≡◌, ◌≤◌, length, map}
use Rattle.cov_expr.specs.declared.kind.Kind.TheVariants as k
use Rattle.cov_grammar.specs.Shapes.{many}
use Rattle.cov_grammar.specs.Grammar.{◌▸◌, separated, whole}
use Rattle.cov_grammar.specs.Reading.{reading}
use Rattle.cov_read.specs.CertViews as views
use Rattle.cov_grammar.proofs.Repeats.{pushed}
use Rattle.cov_read.proofs.certs.read_wholes.Given as goal

abbrev pub invariant-items : goal.invariant-items
invariant-items l = record {
  same : pushed (map views.whole l.list) (reading (many (k.Comma ▸ whole)) l.reader) ≡ reading (separated k.Comma whole) l.fn.reader;
  shorter : length l.reader ≤ length l.fn.reader;
}

abbrev pub decreases-items : goal.decreases-items
decreases-items l = length l.reader
