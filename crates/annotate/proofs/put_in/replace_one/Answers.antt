use Rattle.std.proofs.Common.{◌≡◌, ◌∙◌, map, ap, sym, None}
use Rattle.std.specs.Prelude.{unwrap_or}
use Rattle.cov_ast.specs.View as view
use Rattle.annotate.specs.Inside.Choosing.{lent_choice}
use Rattle.annotate.specs.WithCertificates.{chosen_for}
use Rattle.annotate.proofs.PuttingLaws.{none_for}
use Rattle.annotate.proofs.put_in.replace_one.Goals as goal

pub returns : goal.returns
returns c =
    let q = view.proof c.args.proof.now in
    let none : chosen_for (map lent_choice c.args.left) q.number ≡ None =
    ap (λ cs. chosen_for (map lent_choice cs) q.number) (sym c.as_slice.ensures) ∙ sym c.in-None.ensures in
    (sym (none_for (map lent_choice c.args.left) q.number none), (λ i. record { number = q.number; cert = unwrap_or (sym none i) q.cert }))
