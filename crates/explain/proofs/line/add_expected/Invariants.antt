use Rattle.std.proofs.Common.{◌≡◌, ◌++◌, drop, flat_map}
use Rattle.explain.specs.ExpectedLines.{other}
use Rattle.explain.proofs.line.add_expected.Given as goal

-- the words so far, and those of the rest, are all of them
abbrev pub invariant-loop-next : goal.invariant-loop-next
invariant-loop-next l = l.text ++ flat_map (other l.of_version) (drop l.next-index l.others) ≡ l.initial.text ++ flat_map (other l.of_version) l.others
