use Rattle.std.proofs.Common.{◌∙◌, append_assoc}
use Rattle.std.proofs.lemmas.Result.{on_ok_weaker}
use Rattle.entail_refused.proofs.asked_by.add_listed_name.Goals as goal

pub returns : goal.returns
returns c =
    on_ok_weaker c.add_line_end.result
    (λ is. is ∙ simp (append_assoc, c.in_ok-add_class.ensures, c.in_ok-extend_from_slice-2.ensures.ok, c.in_ok-extend_from_slice.ensures.ok, c.text.ensures.text))
    c.add_line_end.ensures
