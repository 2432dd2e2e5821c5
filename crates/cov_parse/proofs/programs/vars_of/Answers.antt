use Rattle.std.proofs.Common.{◌<◌, length}
use Rattle.cov_ast.specs.View as ast
use Rattle.cov_read.specs.DeclViews as decls
use Rattle.cov_text.specs.GivenTrees as spec
use Rattle.cov_parse.proofs.GivenItems.{item_moved, item_is, items_are}
use Rattle.cov_parse.proofs.programs.vars_of.Goals as goal

pub var_of-requires : goal.var_of-requires
var_of-requires c =
    item_is decls.var (λ x. x.name.0 < length c.args.names.now) c.loop-var.rest c.pop.new.self c.in-Some.var c.in-Some.ensures c.loop-var.invariant.named

pub loop-var-preserved : goal.loop-var-preserved
loop-var-preserved c = record {
  same =
      item_moved (spec.var_of c.args.names.now) decls.var ast.var c.loop-var.made c.push.new.self c.var_of.result c.loop-var.rest c.pop.new.self c.in-Some.var _ c.in-Some.ensures c.in_ok-push.ensures.ok c.var_of.ensures
      c.loop-var.invariant.same;
  named = items_are decls.var (λ x. x.name.0 < length c.args.names.now) c.loop-var.rest c.pop.new.self c.in-Some.var c.in-Some.ensures c.loop-var.invariant.named;
}
