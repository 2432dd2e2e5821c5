use Rattle.std.proofs.Common.{◌≡◌, ◌++◌, map, reverse, length, ◌<◌, All}
use Rattle.cov_ast.specs.View as ast
use Rattle.cov_read.specs.DeclViews as decls
use Rattle.cov_text.specs.GivenTrees as spec
use Rattle.cov_parse.proofs.programs.threads_of.Given as goal

abbrev pub invariant-loop-thread : goal.invariant-loop-thread
invariant-loop-thread l = record {
  same : map ast.thread l.made ++ map (spec.thread_of l.names) (map decls.thread (reverse l.rest)) ≡ map (spec.thread_of l.names) (map decls.thread l.fn.threads);
  named : All (λ x. x.name.0 < length l.names) (map decls.thread (reverse l.rest));
}

abbrev pub decreases-loop-thread : goal.decreases-loop-thread
decreases-loop-thread l = length l.rest
