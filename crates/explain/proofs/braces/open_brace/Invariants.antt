use Rattle.std.proofs.Common.{◌≡◌, ◌+◌, ◌≤◌, drop, length}
use Rattle.explain.specs.OpenBraces.{Braces, braces}
use Rattle.explain.proofs.braces.open_brace.Given as goal

-- what is known of the tokens from this one on, of which no more close a brace than there are
abbrev pub invariant-loop-i : goal.invariant-loop-i
invariant-loop-i l = record {
  known : ◌≡◌ {A = Braces} (record { closing = l.closing; place = l.place }) (braces (drop l.i l.tokens));
  few : l.closing + l.i ≤ length l.tokens;
}
