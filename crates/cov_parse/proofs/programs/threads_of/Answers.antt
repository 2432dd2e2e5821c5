use Rattle.std.proofs.Common.{◌<◌, length}
use Rattle.cov_ast.specs.View as ast
use Rattle.cov_read.specs.DeclViews as decls
use Rattle.cov_text.specs.GivenTrees as spec
use Rattle.cov_parse.proofs.GivenItems.{item_added, item_is, items_are}
use Rattle.cov_parse.proofs.programs.threads_of.Goals as goal

pub add_thread-requires : goal.add_thread-requires
add_thread-requires c =
    item_is decls.thread (λ x. x.name.0 < length c.args.names.now) c.loop-thread.rest c.pop.new.self c.in-Some.thread c.in-Some.ensures c.loop-thread.invariant.named

pub loop-thread-preserved : goal.loop-thread-preserved
loop-thread-preserved c = record {
  same =
      item_added (spec.thread_of c.args.names.now) decls.thread ast.thread c.loop-thread.made c.add_thread.new.made c.loop-thread.rest c.pop.new.self c.in-Some.thread _ c.in-Some.ensures c.in_ok-add_thread.ensures c.loop-thread.invariant.same;
  named = items_are decls.thread (λ x. x.name.0 < length c.args.names.now) c.loop-thread.rest c.pop.new.self c.in-Some.thread c.in-Some.ensures c.loop-thread.invariant.named;
}
