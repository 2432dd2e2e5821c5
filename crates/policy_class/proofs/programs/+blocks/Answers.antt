use Rattle.std.proofs.Common.{◌≢◌, ◌≤◌, ◌+◌, ◌∙◌, ap, arith, length, length-set, get_or-set_other, map, refl}
use Rattle.cov_ast.specs.View as view
use Rattle.policy_class.specs.Inside.Ids.{var_in, lock_in}
use Rattle.policy_class.specs.Inside.Statements.{resolved_stmt, StmtHasWords}
use Rattle.policy_class.proofs.BlockLaws.{block_resolved, block_words}
use Rattle.policy_class.proofs.WalkLaws.{walked_none, walked_more, walked_all}
use Rattle.policy_class.proofs.programs.+blocks.Goals as goal

pub resolve_block-loop-i-init : goal.resolve_block-loop-i-init
resolve_block-loop-i-init t c = record {
  unvisited = (refl, λ k d h. refl);
  walked = walked_none view.stmt (resolved_stmt (var_in c.args.ids.now) (lock_in c.args.ids.now)) StmtHasWords c.args.body.now;
}

pub resolve_block-loop-i-preserved : goal.resolve_block-loop-i-preserved
resolve_block-loop-i-preserved t c = record {
  unvisited = (
    length-set c.loop-i.body c.loop-i.i c.resolve_stmt.new.stmt ∙ c.loop-i.invariant.unvisited.0,
    λ k d h.
        get_or-set_other c.loop-i.body c.loop-i.i k c.resolve_stmt.new.stmt d (let other : k ≢ c.loop-i.i = omega (arith, h) in other)
        ∙ c.loop-i.invariant.unvisited.1 k d (omega (arith, h)),
  );
  walked =
      walked_more view.stmt (resolved_stmt (var_in c.args.ids.now) (lock_in c.args.ids.now)) StmtHasWords c.args.body.now c.loop-i.body c.loop-i.i
      c.index-body-i.result c.resolve_stmt.new.stmt (omega (arith, c.loop-i.auto.body, c.loop-i-test.true)) c.resolve_stmt.ensures.resolved
      c.resolve_stmt.ensures.words c.loop-i.invariant.walked;
}

pub resolve_block-returns-clause-resolved : goal.resolve_block-returns-clause-resolved
resolve_block-returns-clause-resolved t c =
    ap view.block_of
    (walked_all view.stmt (resolved_stmt (var_in c.args.ids.now) (lock_in c.args.ids.now)) StmtHasWords c.args.body.now c.loop-i.body c.loop-i.i
    (omega (arith, c.loop-i.auto.body, c.loop-i-test.false)) c.loop-i.invariant.walked).0
    ∙ block_resolved (var_in c.args.ids.now) (lock_in c.args.ids.now) (map view.stmt c.args.body.now)

pub resolve_block-returns-clause-words : goal.resolve_block-returns-clause-words
resolve_block-returns-clause-words t c =
    block_words (map view.stmt c.loop-i.body)
    (walked_all view.stmt (resolved_stmt (var_in c.args.ids.now) (lock_in c.args.ids.now)) StmtHasWords c.args.body.now c.loop-i.body c.loop-i.i
    (omega (arith, c.loop-i.auto.body, c.loop-i-test.false)) c.loop-i.invariant.walked).1
