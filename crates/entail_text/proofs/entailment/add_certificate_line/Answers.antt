use Rattle.std.proofs.Common.{codes, map, option_map}
use Rattle.cov_expr.specs.View.{term}
use Rattle.cov_ast.specs.View as view
use Rattle.entail_text.specs.EntailmentLines.{certificate}
use Rattle.entail_text.proofs.Pieces.{three_added}
use Rattle.entail_text.proofs.entailment.add_certificate_line.Goals as goal

pub returns : goal.returns
returns c =
    three_added c.extend_from_slice-2.result c.args.text.now (codes "  certificate:  ")
    (certificate c.args.names.now (map term c.args.hyps.now) (term c.args.goal.now) (option_map (λ x. view.cert x.now) c.args.cert)) (codes "\n")
    c.extend_from_slice.new.self c.add_certificate.new.text c.extend_from_slice-2.new.self
    c.in_ok-extend_from_slice.ensures.ok c.in_ok-add_certificate.ensures c.extend_from_slice-2.ensures.ok
