use Rattle.std.proofs.Common.{◌≡◌, ◌++◌, map, reverse, length, ◌<◌, All}
use Rattle.cov_ast.specs.View as ast
use Rattle.cov_read.specs.DeclViews as decls
use Rattle.cov_text.specs.GivenTrees as spec
use Rattle.cov_parse.proofs.programs.vars_of.Given as goal

abbrev pub invariant-loop-var : goal.invariant-loop-var
invariant-loop-var l = record {
  same : map ast.var l.made ++ map (spec.var_of l.names) (map decls.var (reverse l.rest)) ≡ map (spec.var_of l.names) (map decls.var l.fn.vars);
  named : All (λ x. x.name.0 < length l.names) (map decls.var (reverse l.rest));
}

abbrev pub decreases-loop-var : goal.decreases-loop-var
decreases-loop-var l = length l.rest
