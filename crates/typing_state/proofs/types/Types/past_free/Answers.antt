use Rattle.std.proofs.Common.{map, option_map, subst}
use Rattle.cov_expr.specs.View.{term}
use Rattle.typing_state.specs.Groups.{AreGrouped}
use Rattle.typing_state.proofs.GroupLaws.{groups_free}
use Rattle.typing_state.proofs.types.Types.past_free.Goals as goal

pub returns-then-group-next-clause-free : goal.returns-then-group-next-clause-free
returns-then-group-next-clause-free c =
    let groups = c.self.inside.groups in
    let types = map (option_map term) c.args.self.now in
    let grouped : AreGrouped groups types = subst (λ qs. AreGrouped groups (map (option_map term) qs)) c.self.view_is c.self.invariant.3 in
    groups_free groups types grouped c.args.x c.args.z c.next_with-next.result c.requires.small c.next_with-next.ensures.passed
