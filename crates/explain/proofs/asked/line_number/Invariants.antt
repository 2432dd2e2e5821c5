use Rattle.std.proofs.Common.{◌≡◌, ◌≤◌, ◌*◌, ◌+◌, drop}
use Rattle.cov_expr.specs.declared.limits.TheConstants.{MOST_BYTES}
use Rattle.explain.specs.FileCalls.{number_from}
use Rattle.explain.proofs.asked.line_number.Given as goal

-- the digits that are left spell, behind those so far, what all do
abbrev pub invariant-loop-byte : goal.invariant-loop-byte
invariant-loop-byte l = record {
  spells : number_from l.number (drop l.byte-index l.word) ≡ number_from 0 l.word;
  small : l.number ≤ MOST_BYTES * 10 + 9;
}
