use Rattle.std.proofs.Common.{◌∙◌, append_assoc}
use Rattle.std.proofs.lemmas.Result.{on_ok_weaker}
use Rattle.entail_refused.proofs.noted.add_line.Goals as goal

pub returns : goal.returns
returns c =
    on_ok_weaker c.extend_from_slice-3.result
    (λ is. is ∙ simp (append_assoc, c.in_ok-add_line_of.ensures, c.in_ok-extend_from_slice-2.ensures.ok, c.in_ok-add_expr.ensures, c.in_ok-extend_from_slice.ensures.ok, c.in_ok-names.ensures))
    c.extend_from_slice-3.ensures.ok
