use Rattle.std.proofs.Common.{◌≡◌, ◌≤◌, ◌+◌, ◌-◌, ◌*◌, length, drop}
use Rattle.cov_grammar.specs.Grammar.{unary}
use Rattle.cov_grammar.specs.Reading.{reading}
use Rattle.cov_read.specs.WrittenViews.{written}
use Rattle.cov_read.specs.Inside.Levels.{atom_of, onward, levelled}
use Rattle.cov_read.proofs.Levels.{behind}
use Rattle.cov_read.proofs.expressions.+expr.Given as goal

-- the tokens that are left, and the rules that may be tried without taking one
abbrev pub decreases-read_atom : goal.decreases-read_atom
decreases-read_atom l = 4 * length l.reader.now

abbrev pub decreases-read_unary : goal.decreases-read_unary
decreases-read_unary l = 4 * length l.reader.now + 1

abbrev pub decreases-read_levels : goal.decreases-read_levels
decreases-read_levels l = 4 * length l.reader.now + 2

abbrev pub decreases-read_expr : goal.decreases-read_expr
decreases-read_expr l = 4 * length l.reader.now + 3

-- what is still to come, behind the operands so far
abbrev pub invariant-read_levels-operators : goal.invariant-read_levels-operators
invariant-read_levels-operators l = record {
  same : onward (drop l.from l.levels) (atom_of l.holes) (written l.left) l.reader ≡ levelled l.levels (atom_of l.holes) l.fn.reader;
  shorter : length l.reader ≤ length l.fn.reader;
  inside : l.from ≤ length l.levels;
}

abbrev pub decreases-read_levels-operators : goal.decreases-read_levels-operators
decreases-read_levels-operators l = length l.reader

-- what is still to come, behind the marks so far
abbrev pub invariant-read_unary-loop : goal.invariant-read_unary-loop
invariant-read_unary-loop l = record {
  same : behind (atom_of l.holes) (l.before - length l.reader) l.reader ≡ reading (unary (atom_of l.holes)) l.fn.reader;
  shorter : length l.reader ≤ l.before;
  count : l.before ≡ length l.fn.reader;
}

abbrev pub decreases-read_unary-loop : goal.decreases-read_unary-loop
decreases-read_unary-loop l = length l.reader
