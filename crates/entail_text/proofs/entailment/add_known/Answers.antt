use Rattle.std.proofs.Common.{◌++◌, ◌∙◌, ap, append_assoc, codes, decimal}
use Rattle.cov_expr.specs.View.{term}
use Rattle.cov_print.specs.Spelling.{whole}
use Rattle.entail_text.proofs.Pieces.{three_added}
use Rattle.entail_text.proofs.entailment.add_known.Goals as goal

pub returns : goal.returns
returns c =
    let text = c.args.text.now in
    let n = decimal c.args.number in
    three_added c.add_expr.result text (codes ", and hypothesis " ++ n) (codes " is ")
    (whole c.args.names.now (term c.args.h.now)) c.add_number.new.text c.extend_from_slice-2.new.self c.add_expr.new.out
    (c.in_ok-add_number.ensures ∙ ap (λ t. t ++ n) c.in_ok-extend_from_slice.ensures.ok ∙ append_assoc text (codes ", and hypothesis ") n)
    c.in_ok-extend_from_slice-2.ensures.ok c.add_expr.ensures
