use Rattle.std.proofs.Common.{◌∙◌, ap, map, sym, arith}
use Rattle.std.proofs.lemmas.List.{get_or-map, length-map}
use Rattle.cov_expr.specs.Trees.{same}
use Rattle.cov_expr.specs.View.{term}
use Rattle.typing_state.proofs.OnceLaws.{first_there, next_fails, none_there}
use Rattle.typing_state.proofs.keys.index_among.Goals as goal

pub returns-then-same : goal.returns-then-same
returns-then-same c =
    let list = c.args.list.now in
    let e = term c.args.e.now in
    let index = c.loop-index.index in
    let f = c.index-list-index.result in
    first_there (λ f. same f e) (map term list) index e c.loop-index.invariant (omega (arith, c.loop-index-test.true, c.loop-index.auto, length-map list term))
    (ap (λ t. same t e) (get_or-map term list index f e (omega (arith, c.loop-index-test.true, c.loop-index.auto)) ∙ ap term (sym c.index-list-index.is))
    ∙ sym c.same.ensures.test ∙ c.if-same.true)

pub loop-index-preserved : goal.loop-index-preserved
loop-index-preserved c =
    let list = c.args.list.now in
    let e = term c.args.e.now in
    let index = c.loop-index.index in
    let f = c.index-list-index.result in
    next_fails (λ f. same f e) (map term list) index e c.loop-index.invariant
    (ap (λ t. same t e) (get_or-map term list index f e (omega (arith, c.loop-index-test.true, c.loop-index.auto)) ∙ ap term (sym c.index-list-index.is))
    ∙ sym c.same.ensures.test ∙ c.if-same.false)

pub returns : goal.returns
returns c =
    let list = c.args.list.now in
    let e = term c.args.e.now in
    none_there (λ f. same f e) (map term list) c.loop-index.index e c.loop-index.invariant (omega (arith, c.loop-index-test.false, c.loop-index.auto, length-map list term))
