use Rattle.std.proofs.Common.{◌<◌, ◌+◌, ◌∙◌, length, map, sym, ap, arith}
use Rattle.std.proofs.lemmas.List.{length-map, map-set, get_or-map}
use Rattle.cov_ast.specs.View as view
use Rattle.annotate.specs.Inside.Choosing.{lent_choice}
use Rattle.annotate.specs.Inside.Putting.{with_chosen}
use Rattle.annotate.specs.WithCertificates.{for_others}
use Rattle.annotate.proofs.PuttingLaws.{proofs_all, proofs_mixed, proofs_more}
use Rattle.annotate.proofs.put_in.replace_each.Goals as goal

pub loop-proof-preserved : goal.loop-proof-preserved
loop-proof-preserved c =
    let rest = map lent_choice c.loop-proof.left in
    let i = c.loop-proof.proof-index in
    let proofs = c.loop-proof.proofs in
    let x = c.proof-item.result in
    let here : i < length proofs = omega (arith, c.loop-proof.auto.proofs, c.loop-proof-test.true) in
    let given = sym (get_or-map view.proof proofs i x (view.proof x) here) in
    ap (proofs_mixed _ (i + 1)) (map-set view.proof proofs i _)
    ∙ proofs_more rest _ i (map view.proof proofs) (view.proof x) _ (omega (arith, here, length-map proofs view.proof))
    (c.in_ok-left-2.ensures.1 ∙ ap (with_chosen rest) given)
    (c.in_ok-left-2.ensures.0 ∙ ap (λ q. for_others q.number rest) given)
    ∙ c.loop-proof.invariant

pub returns : goal.returns
returns c =
    proofs_all (map lent_choice c.loop-proof.left) c.loop-proof.proof-index (map view.proof c.loop-proof.proofs)
    (omega (arith, length-map c.loop-proof.proofs view.proof, c.loop-proof.auto.proofs, c.loop-proof-test.false))
    ∙ c.loop-proof.invariant
