use Rattle.std.proofs.Common.{◌≡◌, ◌++◌, drop, map}
use Rattle.text_parts.specs.Excerpts.{shown}
use Rattle.code_lines.proofs.source.add_source.Given as goal

-- what is written, and what is left, is all of it
abbrev pub invariant-loop-byte : goal.invariant-loop-byte
invariant-loop-byte l = l.text ++ map shown (drop l.byte-index l.bytes) ≡ l.initial.text ++ map shown l.bytes
