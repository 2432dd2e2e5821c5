use Rattle.std.proofs.Common.{◌≡◌, ◌++◌, flat_map, codes, take, All}
use Rattle.cov_expr.specs.Names.{IsName}
use Rattle.code_text.proofs.text.add_names.Given as goal

-- the rows so far
abbrev pub invariant-loop-name : goal.invariant-loop-name
invariant-loop-name l = record {
  text : l.out ≡ l.initial.out ++ flat_map (λ n. (l.word ++ n) ++ codes "\n") (take l.name-index l.names);
  names : All IsName (take l.name-index l.names);
}
