use Rattle.std.proofs.Common.{◌≡◌, take, drop}
use Rattle.code_text.specs.Inside.ListingReading.{pieces}
use Rattle.code_text.proofs.Cuts.{glue}
use Rattle.code_text.proofs.read.find.Given as goal

-- what was passed belongs to the first piece
abbrev pub invariant-loop-i : goal.invariant-loop-i
invariant-loop-i l = glue (take l.i l.text) (pieces l.byte (drop l.i l.text)) ≡ pieces l.byte l.text
