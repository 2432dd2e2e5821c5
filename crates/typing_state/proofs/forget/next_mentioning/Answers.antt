use Rattle.std.proofs.Common.{◌∙◌, map, option_map, get_or, length, subst, sym, ap, None, arith}
use Rattle.std.proofs.lemmas.List.{length-map}
use Rattle.cov_expr.specs.View.{term}
use Rattle.cov_ast.specs.View as view
use Rattle.typing_state.specs.Groups.{is_free}
use Rattle.typing_state.specs.Inside.Least.{if_below}
use Rattle.typing_state.specs.Next.{AreDone}
use Rattle.typing_state.proofs.WalkLaws.{done_below}
use Rattle.typing_state.proofs.forget.next_mentioning.Goals as goal

pub returns : goal.returns
returns c =
    let qs = map (option_map term) c.args.types.now in
    let from = c.args.from in
    let count = length c.args.p.now.vars in
    subst (AreDone (λ k. is_free c.args.x (get_or qs k None)) from count)
    (sym (c.if_below.ensures ∙ ap (λ n. if_below n c.next_mentioning.result) c.var_count.ensures))
    (done_below (λ k. is_free c.args.x (get_or qs k None)) from 256 count c.next_mentioning.result
    (omega (arith, c.requires.formed.limits.variables, length-map c.args.p.now.vars view.var)) c.next_mentioning.ensures.done)
