use Rattle.std.proofs.Common.{◌≡◌, ◌+◌, ◌++◌, ◌∷◌, false, suc, drop, map, ap, sym, ◌∙◌, append_assoc, arith}
use Rattle.std.proofs.Math.Seq.{drop-cons}
use Rattle.cov_ast.specs.Plain.{plain}
use Rattle.cov_ast.specs.View as view
use Rattle.entail_losses.specs.LeftOut.{seen}
use Rattle.entail_losses.specs.LeftOutLines.{left_out_line, left_out_lines}
use Rattle.entail_losses.proofs.left_out_lines.add_left_out_lines.Goals as goal

pub loop-one-preserved : goal.loop-one-preserved
loop-one-preserved c =
    let p = plain (view.program c.args.p.now) in
    let names = c.args.names.now in
    let bytes = c.args.bytes.now in
    let found = c.args.found.now in
    let i = c.loop-one.one-index in
    let item = c.one-item.result in
    let line = left_out_line p names bytes false (seen item) in
    let rest = left_out_lines p names bytes (map seen (drop (i + 1) found)) in
    let one_more : suc i ≡ i + 1 = omega arith in
    let next : drop i found ≡ item ∷ drop (i + 1) found =
    drop-cons found i item c.loop-one-test.true
    ∙ ap (λ o. o ∷ drop (suc i) found) (sym c.one-item.is)
    ∙ ap (λ n. item ∷ drop n found) one_more in
    ap (λ t. t ++ rest) c.in_ok-add_left_out_line.ensures
    ∙ append_assoc c.loop-one.text line rest
    ∙ ap (λ os. c.loop-one.text ++ left_out_lines p names bytes (map seen os)) (sym next)
    ∙ c.loop-one.invariant
