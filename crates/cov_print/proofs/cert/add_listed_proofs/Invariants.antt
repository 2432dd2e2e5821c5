use Rattle.std.proofs.Common.{◌≡◌, ◌++◌, drop, map}
use Rattle.cov_ast.specs.View as view
use Rattle.cov_print.specs.Spelling as spec
use Rattle.cov_print.proofs.cert.add_listed_proofs.Given as goal

-- what is written, and what is left, are the whole list
abbrev pub invariant-loop-p : goal.invariant-loop-p
invariant-loop-p l =
    l.out ++ spec.more (spec.proof l.names) (map view.proof (drop l.p-index l.rest))
    ≡ l.fn.out ++ spec.listed (spec.proof l.names) (map view.proof l.ps)
