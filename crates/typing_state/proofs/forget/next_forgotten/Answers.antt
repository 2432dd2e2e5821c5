use Rattle.std.proofs.Common.{◌∙◌, ℕ, Bool, ap, get_or, length, map, None, option_map, Some, subst, sym}
use Rattle.cov_expr.specs.View.{term}
use Rattle.typing_state.specs.Inside.Forgotten.{is_passed}
use Rattle.typing_state.specs.Inside.Least.{if_below}
use Rattle.typing_state.specs.Next.{AreDone}
use Rattle.typing_state.proofs.WalkLaws.{done_next}
use Rattle.typing_state.proofs.forget.next_forgotten.Goals as goal

pub returns-in-Every : goal.returns-in-Every
returns-in-Every c =
    let from = c.args.from in
    let count = length c.args.p.now.vars in
    let done : ℕ → Bool = λ k. is_passed c.args.modes.now c.args.which k (get_or (map (option_map term) c.args.types.now) k None) in
    subst (AreDone done from count) (sym (c.if_below.ensures ∙ ap (λ n. if_below n (Some from)) c.var_count.ensures)) (done_next done from count)
