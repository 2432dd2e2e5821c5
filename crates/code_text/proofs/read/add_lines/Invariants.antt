use Rattle.std.proofs.Common.{◌≡◌, ◌+◌, ◌≤◌, length}
use Rattle.risc_machine.specs.Faults.{names_of}
use Rattle.code_text.specs.Inside.Drafts.{IsSmall}
use Rattle.code_text.specs.Inside.Lookup.{IsRegisterOf}
use Rattle.code_text.specs.Inside.ListingReading.{pieces, read_lines}
use Rattle.cov_expr.specs.declared.limits.TheConstants.{MOST_LISTING_BYTES}
use Rattle.code_text.proofs.read.add_lines.Given as goal

-- what is left is read as the whole is
abbrev pub invariant-loop-cut : goal.invariant-loop-cut
invariant-loop-cut l = record {
  same : read_lines (pieces 10 l.rest) l.draft l.n ≡ read_lines (pieces 10 l.text) l.fn.draft 2;
  known : IsRegisterOf l.register (names_of l.draft.parts);
  small : IsSmall l.n l.draft.parts;
  short : l.n + length l.rest ≤ MOST_LISTING_BYTES + 2;
  two : 2 ≤ l.n;
}

abbrev pub decreases-loop-cut : goal.decreases-loop-cut
decreases-loop-cut l = length l.rest
