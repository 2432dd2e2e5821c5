use Rattle.std.proofs.Common.{◌≡◌, ◌++◌, take, drop}
use Rattle.text_parts.specs.Lines as spec
use Rattle.text_parts.proofs.lines.to_feed.Given as goal

-- the bytes so far have no line feed
abbrev pub invariant-loop-i : goal.invariant-loop-i
invariant-loop-i l = take l.i l.bytes ++ spec.to_feed (drop l.i l.bytes) ≡ spec.to_feed l.bytes
