use Rattle.std.proofs.Common.{◌≡◌, ◌++◌, flat_map, length, take, All}
use Rattle.cov_expr.specs.Names.{IsName}
use Rattle.object_code.specs.Object.{four, name}
use Rattle.object_code.proofs.bytes.add_names.Given as goal

-- the names so far
abbrev pub invariant-loop-name : goal.invariant-loop-name
invariant-loop-name l = record {
  bytes : l.out ≡ l.fn.out ++ (four (length l.names) ++ flat_map name (take l.name-index l.names));
  names : All IsName (take l.name-index l.names);
}
