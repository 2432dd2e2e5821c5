use Rattle.std.proofs.Common.{◌≡◌, ◌++◌, map, flat_map, take}
use Rattle.code_text.specs.Inside.SpelledLines.{AreOfWords}
use Rattle.code_text.specs.Listing.{spelled, line}
use Rattle.code_text.proofs.text.add_lines.Given as goal

-- the rows so far
abbrev pub invariant-loop-line : goal.invariant-loop-line
invariant-loop-line l = record {
  text : l.out ≡ l.initial.out ++ flat_map spelled (map (line l.parts.vars l.parts.locks) (take l.line-index l.lines));
  words : AreOfWords (take l.line-index l.lines);
}
