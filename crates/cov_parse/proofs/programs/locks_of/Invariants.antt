use Rattle.std.proofs.Common.{◌≡◌, ◌++◌, map, reverse, length, ◌<◌, All}
use Rattle.cov_ast.specs.View as ast
use Rattle.cov_read.specs.DeclViews as decls
use Rattle.cov_text.specs.GivenTrees as spec
use Rattle.cov_parse.proofs.programs.locks_of.Given as goal

abbrev pub invariant-loop-lock : goal.invariant-loop-lock
invariant-loop-lock l = record {
  same : map ast.lock l.made ++ map (spec.lock_of l.names) (map decls.lock (reverse l.rest)) ≡ map (spec.lock_of l.names) (map decls.lock l.fn.locks);
  named : All (λ x. x.name.0 < length l.names) (map decls.lock (reverse l.rest));
}

abbrev pub decreases-loop-lock : goal.decreases-loop-lock
decreases-loop-lock l = length l.rest
