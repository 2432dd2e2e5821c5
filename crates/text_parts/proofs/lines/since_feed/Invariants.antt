use Rattle.std.proofs.Common.{◌≡◌, ◌≤◌, take, drop}
use Rattle.text_parts.specs.Lines as spec
use Rattle.text_parts.proofs.lines.since_feed.Given as goal

-- of the bytes so far, those behind the last line feed stand from `start` on
abbrev pub invariant-loop-i : goal.invariant-loop-i
invariant-loop-i l = (spec.since_feed (take l.i l.bytes) ≡ drop l.start (take l.i l.bytes)) × (l.start ≤ l.i)
