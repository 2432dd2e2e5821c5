use Rattle.std.proofs.Common.{◌&&◌, ◌∙◌, not, map, option_map, get_or, length, subst, sym, None, [], arith}
use Rattle.std.proofs.lemmas.List.{length-map}
use Rattle.cov_expr.specs.View.{term}
use Rattle.cov_ast.specs.Tables.{has}
use Rattle.cov_ast.specs.View as view
use Rattle.point_law.specs.Terms.{is_closed_type}
use Rattle.typing_state.specs.Next.{AreDone}
use Rattle.typing_state.specs.Inside.Least.{if_below}
use Rattle.typing_state.proofs.WalkLaws.{done_both, done_below}
use Rattle.typing_state.proofs.NextLaws.{next_done}
use Rattle.typing_state.proofs.forget.next_changed.Goals as goal

pub returns : goal.returns
returns c =
    let s = get_or (c.args.modes.now).listed c.args.l [] in
    let qs = map (option_map term) c.args.types.now in
    let from = c.args.from in
    let count = length c.args.p.now.vars in
    let unlisted = next_done s from 256 c.next_listed.result c.next_listed.ensures.next c.next_listed.ensures.small in
    let done = done_both (λ k. not (has s k)) (λ k. is_closed_type (get_or qs k None)) from 256 c.next_listed.result c.next_varying.result unlisted c.next_varying.ensures in
    subst (AreDone (λ k. not (has s k) && is_closed_type (get_or qs k None)) from count)
    (sym (c.if_below.ensures ∙ (λ i. if_below (c.var_count.ensures i) (c.earlier-next.ensures i))))
    (done_below (λ k. not (has s k) && is_closed_type (get_or qs k None)) from 256 count _ (omega (arith, c.requires.limits.variables, length-map c.args.p.now.vars view.var)) done)
