use Rattle.std.proofs.Common.{◌≡◌, ◌+◌, ◌≤◌, drop}
use Rattle.text_parts.specs.Lines as spec
use Rattle.text_parts.proofs.lines.feeds.Given as goal

-- the line feeds so far, and those of what is left, are all of them
abbrev pub invariant-loop-byte : goal.invariant-loop-byte
invariant-loop-byte l = (l.count + spec.feeds (drop l.byte-index l.bytes) ≡ spec.feeds l.bytes) × (l.count ≤ l.byte-index)
