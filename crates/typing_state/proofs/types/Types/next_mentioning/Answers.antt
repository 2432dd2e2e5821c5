use Rattle.std.proofs.Common.{map, option_map, arith}
use Rattle.cov_expr.specs.View.{term}
use Rattle.typing_state.proofs.GroupLaws.{walk_end, walk_past, walk_to}
use Rattle.typing_state.proofs.types.Types.next_mentioning.Goals as goal

pub returns-then-next-z-clause-done : goal.returns-then-next-z-clause-done
returns-then-next-z-clause-done c =
    walk_to (map (option_map term) c.args.self.now) c.args.x c.args.from c.loop-z.start c.loop-z.invariant.0 c.loop-z.invariant.1 c.in-Some.z c.in-Some.ensures

pub returns-then-next-z-clause-mentioning : goal.returns-then-next-z-clause-mentioning
returns-then-next-z-clause-mentioning c = c.past_free-next.ensures.stays c.if-next-z.true

pub loop-z-preserved : goal.loop-z-preserved
loop-z-preserved c =
    let next = c.in-Some.ensures in
    let begun = c.loop-z.invariant.0 in
    let past = c.past_free-next.ensures in (
      omega (arith, next.1, past.further),
      walk_past (map (option_map term) c.args.self.now) c.args.x c.args.from c.loop-z.start begun c.loop-z.invariant.1 c.in-Some.z c.past_free-next.result next past.free,
    )

pub returns-clause-done : goal.returns-clause-done
returns-clause-done c =
    walk_end (map (option_map term) c.args.self.now) c.args.x c.args.from c.loop-z.start c.loop-z.invariant.0 c.loop-z.invariant.1 c.in_default.ensures
