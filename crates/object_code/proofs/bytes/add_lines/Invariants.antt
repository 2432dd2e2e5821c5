use Rattle.std.proofs.Common.{◌≡◌, ◌++◌, flat_map, take}
use Rattle.object_code.specs.Inside.Given.{AreOfWords}
use Rattle.object_code.specs.Object.{line}
use Rattle.object_code.proofs.bytes.add_lines.Given as goal

-- the lines so far
abbrev pub invariant-loop-line : goal.invariant-loop-line
invariant-loop-line l = record {
  bytes : l.out ≡ l.initial.out ++ flat_map line (take l.line-index l.lines);
  words : AreOfWords (take l.line-index l.lines);
}
