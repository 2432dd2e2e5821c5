use Rattle.std.proofs.Common.{◌≡◌, suc, ◌-◌, IfOk, map, sym, subst, arith}
use Rattle.cov_expr.specs.View.{term}
use Rattle.entail_counter.specs.Searching as spec
use Rattle.entail_counter.proofs.search.+search.Goals as goal

pub search-returns : goal.search-returns
search-returns t c =
    let hyps = map term c.args.hyps.now in
    let asked = term c.args.goal.now in
    let more = c.args.more.now in
    let below = c.args.depth - 1 in
    let one_more : c.args.depth ≡ suc (c.args.depth - 1) = omega arith in
    subst (λ d. IfOk c.onward.result (λ found.
    (found ≡ (spec.search hyps asked more d c.args.m.now c.args.left.now).found)
    × (c.onward.new.left ≡ (spec.search hyps asked more d c.args.m.now c.args.left.now).left)))
    (sym one_more)
    (subst (λ k. IfOk c.onward.result (λ found.
    (found ≡ (spec.onward hyps asked more (spec.search hyps asked more below) k c.args.m.now c.args.left.now).found)
    × (c.onward.new.left ≡ (spec.onward hyps asked more (spec.search hyps asked more below) k c.args.m.now c.args.left.now).left)))
    c.chosen-choice.ensures c.onward.ensures)
