use Rattle.std.proofs.Common.{◌≡◌, ◌++◌, drop, map}
use Rattle.text_parts.specs.Excerpts as spec
use Rattle.text_parts.proofs.excerpt.add_under.Given as goal

-- what is written, and what is left, is all of it
abbrev pub invariant-loop-byte : goal.invariant-loop-byte
invariant-loop-byte l = l.text ++ map spec.under (drop l.byte-index l.bytes) ≡ l.fn.text ++ map spec.under l.bytes
