use Rattle.std.proofs.Common.{◌≡◌, ◌≤◌, take, drop, map}
use Rattle.code_text.specs.Inside.ListingReading.{pieces}
use Rattle.code_text.proofs.Cuts.{glue, Begun, between}
use Rattle.code_text.proofs.read.cut_line.Given as goal

-- what was passed belongs to the first line, and its last field goes on
abbrev pub invariant-loop-i : goal.invariant-loop-i
invariant-loop-i l = record {
  order : l.start ≤ l.i;
  line : glue (take l.i l.text) (pieces 10 (drop l.i l.text)) ≡ pieces 10 l.text;
  fields : Begun 32 (take l.i l.text) (map (λ f. f.now) l.fields.items) (between l.start l.i l.text);
}
