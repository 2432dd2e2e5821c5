use Rattle.std.proofs.Common.{◌≡◌, ◌≤◌, ◌+◌, ◌*◌, length, map}
use Rattle.cov_grammar.specs.Shapes.{many, placed}
use Rattle.cov_grammar.specs.Reading.{reading}
use Rattle.cov_grammar.specs.Grammar as spec
use Rattle.cov_read.specs.StmtViews as views
use Rattle.cov_grammar.proofs.Repeats.{pushed}
use Rattle.cov_read.proofs.stmts.+block.Given as goal

-- what is still to come, behind the items so far, is the list
abbrev pub invariant-read_body-items : goal.invariant-read_body-items
invariant-read_body-items l = record {
  same : pushed (map views.stmt l.list) (reading (many (placed spec.statement)) l.reader) ≡ reading (many (placed spec.statement)) l.fn.reader;
  shorter : length l.reader ≤ length l.fn.reader;
}

abbrev pub decreases-read_body-items : goal.decreases-read_body-items
decreases-read_body-items l = length l.reader

abbrev pub decreases-read_block : goal.decreases-read_block
decreases-read_block l = 10 * length l.reader.now + 2

abbrev pub decreases-read_braces : goal.decreases-read_braces
decreases-read_braces l = 10 * length l.reader.now + 1

abbrev pub decreases-read_body : goal.decreases-read_body
decreases-read_body l = 10 * length l.reader.now + 6

abbrev pub decreases-read_stmt : goal.decreases-read_stmt
decreases-read_stmt l = 10 * length l.reader.now + 5

abbrev pub decreases-read_statement : goal.decreases-read_statement
decreases-read_statement l = 10 * length l.reader.now + 4

abbrev pub decreases-read_branched : goal.decreases-read_branched
decreases-read_branched l = 10 * length l.reader.now + 4

abbrev pub decreases-read_otherwise : goal.decreases-read_otherwise
decreases-read_otherwise l = 10 * length l.reader.now + 3

abbrev pub decreases-read_looped : goal.decreases-read_looped
decreases-read_looped l = 10 * length l.reader.now + 3
