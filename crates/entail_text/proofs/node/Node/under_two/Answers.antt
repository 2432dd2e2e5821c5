use Rattle.std.proofs.Common.{◌≡◌, IfOk, option_map, subst}
use Rattle.cov_ast.specs.View as view
use Rattle.entail_cert.specs.HeldTerms.{held_term}
use Rattle.entail_text.specs.Inside.{seen}
use Rattle.entail_text.proofs.TwoMore.{under_both}
use Rattle.entail_text.proofs.node.Node.under_two.Goals as goal

pub returns-in-Some : goal.returns-in-Some
returns-in-Some c =
    subst (λ t. IfOk c.under_any-in-Some.result (λ made. option_map seen made ≡ t))
    (under_both (option_map held_term c.args.first) (option_map held_term c.args.second) (seen c.args.self).hyps (seen c.args.self).goal (view.cert c.args.cert.now) (seen c.in-Some.child)
    (rw c.in-Some.is at c.in_ok-child.ensures))
    c.under_any-in-Some.ensures
