use Rattle.std.proofs.Common.{◌≡◌, ◌+◌, length, take}
use Rattle.statement_paths.proofs.find.cut.Given as goal

-- the first of them stay, and so many are left to be taken off
abbrev pub invariant-loop : goal.invariant-loop
invariant-loop l = record {
  front : take l.count l.steps ≡ take l.count l.fn.steps;
  left : length l.steps + l.counter ≡ l.end + l.count;
}
