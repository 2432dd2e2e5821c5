use Rattle.std.proofs.Common.{◌≡◌, map, None, ap, sym, ◌∙◌}
use Rattle.cov_ast.specs.View as view
use Rattle.annotate.specs.Inside.Choosing.{lent_cert, lent_choice}
use Rattle.annotate.specs.WithCertificates as spec
use Rattle.annotate.proofs.StatementUses.{cert_stays, others_same, proof_becomes}
use Rattle.annotate.proofs.uses.Uses.add_proof.Goals as goal

pub returns-in-None : goal.returns-in-None
returns-in-None c =
    let n = c.args.proof.now.number in
    let none : spec.chosen_for (map lent_choice c.args.left) n ≡ None =
    ap (λ l. spec.chosen_for (map lent_choice l) n) (sym c.as_slice.ensures) ∙ sym c.in-None.ensures in (
      sym (others_same n (map lent_choice c.args.left) none),
      cert_stays c.args.at (view.cert c.args.proof.now.cert) _ _ _ none c.in_ok-cert-in-None.ensures,
    )

pub returns : goal.returns
returns c =
    proof_becomes c.for_others.result c.args.proof.now.number c.args.at c.args.left c.as_slice.result.now c.as_slice-in-Some.result.now
    (view.cert c.args.proof.now.cert) (lent_cert c.in-Some.cert) _ _ _ c.as_slice.ensures c.as_slice-in-Some.ensures c.in-Some.ensures
    c.in_ok-cert-in-Some.ensures c.in_ok-cert-in-Some-2.ensures c.for_others.ensures
