use Rattle.std.proofs.Common.{ap, subst, map, option_map, get_or, None}
use Rattle.cov_expr.specs.View.{term}
use Rattle.point_law.specs.Terms.{is_closed_type}
use Rattle.typing_state.specs.Next.{AreDone}
use Rattle.typing_state.proofs.NextLaws.{next_done, marked_done}
use Rattle.typing_state.proofs.types.Types.next_varying.Goals as goal

pub returns : goal.returns
returns c =
    let s = c.self.inside in
    let next = c.next_from.result in
    let done = next_done s.varying c.args.from 256 next c.next_from.ensures.next c.next_from.ensures.small in
    subst (λ qs. AreDone (λ k. is_closed_type (get_or qs k None)) c.args.from 256 next) (ap (map (option_map term)) c.self.view_is)
    (marked_done s.varying c.self.invariant.1 (map (option_map term) (map (option_map (λ q. q.value)) s.known)) c.self.invariant.2 c.args.from next done)
