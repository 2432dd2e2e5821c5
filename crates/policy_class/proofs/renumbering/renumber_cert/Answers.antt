use Rattle.std.proofs.Common.{◌∙◌, ℕ, List, get_or, ap}
use Rattle.cov_ast.specs.View as view
use Rattle.policy_class.specs.Inside.Ids.{lock_in, var_in}
use Rattle.policy_class.specs.Resolved.{resolved_cert}
use Rattle.policy_class.proofs.CertLaws.{cert_same}
use Rattle.policy_class.proofs.renumbering.renumber_cert.Goals as goal

pub returns : goal.returns
returns c =
    let ids = c.numbers.inside.ids in
    let cert = view.cert c.args.cert.now in
    c.resolve_cert.ensures.resolved
    ∙ cert_same (var_in ids) (lock_in ids) (λ l. l) cert
    ∙ ap (λ (n : List ℕ × ℕ). resolved_cert (λ x. get_or n.0 x n.1) (λ l. l) cert) c.numbers.view_is
