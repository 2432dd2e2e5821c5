use Rattle.std.proofs.Common.{◌≡◌, length, take}
use Rattle.cov_ast.proofs.names.NameTable.copy.Given as goal

-- the names so far
abbrev pub invariant-loop-number : goal.invariant-loop-number
invariant-loop-number l = record {
  count : length l.made ≡ l.number;
  names : l.made ≡ take l.number l.self;
}
