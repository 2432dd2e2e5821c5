use Rattle.std.proofs.Common.{◌≡◌, ◌+◌, ◌++◌, ◌∷◌, suc, drop, map, ap, sym, ◌∙◌, append_assoc, arith}
use Rattle.std.proofs.Math.Seq.{drop-cons}
use Rattle.cov_ast.specs.Plain.{plain}
use Rattle.cov_ast.specs.View as view
use Rattle.cov_expr.specs.View.{term}
use Rattle.entail_losses.specs.LeftOut.{seen}
use Rattle.entail_losses.specs.Losses.{helping_left_out, helping_left_out_line}
use Rattle.entail_losses.proofs.losses.add_helping_left_out.Goals as goal

pub loop-one-preserved : goal.loop-one-preserved
loop-one-preserved c =
    let p = plain (view.program c.args.p.now) in
    let names = c.args.names.now in
    let bytes = c.args.bytes.now in
    let known = map term c.args.e.known.now in
    let hyps = map term c.args.e.hyps.now in
    let asked = term c.args.e.goal.now in
    let all = c.args.found.now in
    let i = c.loop-one.one-index in
    let item = c.one-item.result in
    let line = helping_left_out_line p names bytes known hyps asked (seen item) in
    let rest = helping_left_out p names bytes known hyps asked (map seen (drop (i + 1) all)) in
    let one_more : suc i ≡ i + 1 = omega arith in
    let next : drop i all ≡ item ∷ drop (i + 1) all =
    drop-cons all i item c.loop-one-test.true
    ∙ ap (λ o. o ∷ drop (suc i) all) (sym c.one-item.is)
    ∙ ap (λ n. item ∷ drop n all) one_more in
    ap (λ t. t ++ rest) c.in_ok-add_if_left_out_helps.ensures
    ∙ append_assoc c.loop-one.text line rest
    ∙ ap (λ os. c.loop-one.text ++ helping_left_out p names bytes known hyps asked (map seen os)) (sym next)
    ∙ c.loop-one.invariant
