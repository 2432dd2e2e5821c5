use Rattle.std.proofs.Common.{◌++◌, ◌∙◌, ap, append_assoc, codes, decimal}
use Rattle.std.proofs.lemmas.Result.{on_ok_weaker}
use Rattle.cov_expr.specs.View.{term}
use Rattle.cert_search.specs.declared.finder.TheConstants.{MOST_DEPTH}
use Rattle.entail_text.specs.BrokenLines.{neither_line}
use Rattle.entail_text.specs.ZeroGoals.{zero_line}
use Rattle.entail_text.proofs.broken.add_neither.Goals as goal

pub returns : goal.returns
returns c =
    let old = c.args.text.now in
    let head = codes "  suggestion:   none: no certificate of up to " in
    let depth = decimal MOST_DEPTH in
    let end = codes " steps is valid, no longer one was found, and no memory that breaks it\n" in
    let zero = zero_line (term c.args.goal.now) in
    let first = c.in_ok-add_number.ensures ∙ ap (λ s. s ++ depth) c.in_ok-extend_from_slice.ensures.ok ∙ append_assoc old head depth in
    let line = c.in_ok-extend_from_slice-2.ensures.ok ∙ ap (λ s. s ++ end) first ∙ append_assoc old (head ++ depth) end in
    on_ok_weaker c.add_zero.result (λ is. is ∙ ap (λ s. s ++ zero) line ∙ append_assoc old neither_line zero) c.add_zero.ensures
