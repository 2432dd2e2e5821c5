use Rattle.std.proofs.Common.{◌<◌, length}
use Rattle.cov_ast.specs.View as ast
use Rattle.cov_read.specs.DeclViews as decls
use Rattle.cov_text.specs.GivenTrees as spec
use Rattle.cov_parse.proofs.GivenItems.{item_moved, item_is, items_are}
use Rattle.cov_parse.proofs.programs.locks_of.Goals as goal

pub lock_of-requires : goal.lock_of-requires
lock_of-requires c =
    item_is decls.lock (λ x. x.name.0 < length c.args.names.now) c.loop-lock.rest c.pop.new.self c.in-Some.lock c.in-Some.ensures c.loop-lock.invariant.named

pub loop-lock-preserved : goal.loop-lock-preserved
loop-lock-preserved c = record {
  same =
      item_moved (spec.lock_of c.args.names.now) decls.lock ast.lock c.loop-lock.made c.push.new.self c.lock_of.result c.loop-lock.rest c.pop.new.self c.in-Some.lock _ c.in-Some.ensures c.in_ok-push.ensures.ok c.lock_of.ensures
      c.loop-lock.invariant.same;
  named = items_are decls.lock (λ x. x.name.0 < length c.args.names.now) c.loop-lock.rest c.pop.new.self c.in-Some.lock c.in-Some.ensures c.loop-lock.invariant.named;
}
