use Rattle.std.proofs.Common.{◌≡◌, ◌++◌, drop, map}
use Rattle.cov_ast.specs.View as view
use Rattle.cov_expr.specs.View.{term}
use Rattle.entail_refused.specs.InvariantsWithout.{lines_of}
use Rattle.entail_refused.proofs.invariants_without.add_of_each.Given as goal

-- the lines so far, and those of the rest, are all
abbrev pub invariant-loop-x : goal.invariant-loop-x
invariant-loop-x l =
    let p = view.program l.p in
    let hyps = map term l.hyps in
    l.text ++ lines_of p l.bytes hyps (drop l.x-index l.xs) ≡ l.fn.text ++ lines_of p l.bytes hyps l.xs
