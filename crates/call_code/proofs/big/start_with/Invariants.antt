use Rattle.std.proofs.Common.{◌≡◌, ◌++◌, drop, map}
use Rattle.cov_ast.specs.View as view
use Rattle.call_code.specs.BigReplies.{start_with}
use Rattle.call_code.proofs.big.start_with.Given as goal

-- the words that stand, and those of what is left, are all of them
abbrev pub invariant-loop-var : goal.invariant-loop-var
invariant-loop-var l = l.memory ++ start_with l.word (map view.var (drop l.var-index l.vars)) ≡ start_with l.word (map view.var l.vars)
