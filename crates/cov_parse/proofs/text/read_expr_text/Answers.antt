use Rattle.std.proofs.Common.{◌≡◌, ◌∙◌, ap}
use Rattle.cov_expr.specs.View.{term}
use Rattle.cov_text.specs.Text.{names_of}
use Rattle.cov_parse.proofs.text.read_expr_text.Goals as goal

pub returns : goal.returns
returns c =
    let found = c.in_ok-expr.ensures in
    let names : c.in_ok-names.field-0.names ≡ names_of c.args.bytes.now = c.in_ok-names.ensures.1 in
    (found.0, found.1, ap (λ ns. record { names = ns; uses = c.in_ok-expr.uses; expr = term c.in_ok-expr.expr }) names ∙ found.2)
