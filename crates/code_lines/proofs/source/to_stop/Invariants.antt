use Rattle.std.proofs.Common.{◌≡◌, ◌++◌, take, drop}
use Rattle.code_lines.specs.CodeLines as spec
use Rattle.code_lines.proofs.source.to_stop.Given as goal

-- the bytes so far have neither that byte nor a line feed
abbrev pub invariant-loop-i : goal.invariant-loop-i
invariant-loop-i l = take l.i l.bytes ++ spec.to_stop l.stop (drop l.i l.bytes) ≡ spec.to_stop l.stop l.bytes
