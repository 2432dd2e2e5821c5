use Rattle.std.proofs.Common.{◌≡◌, ◌≤◌, length}
use Rattle.object_code.specs.Inside.ObjectReading.{text_at}
use Rattle.object_code.proofs.Texts.{passed}
use Rattle.object_code.proofs.field.text_at.Given as goal

-- the bytes so far go on as a name
abbrev pub invariant-loop-i : goal.invariant-loop-i
invariant-loop-i l = record {
  read : passed l.len l.i l.bytes ≡ text_at l.len l.bytes;
  within : l.i ≤ length l.bytes;
}
