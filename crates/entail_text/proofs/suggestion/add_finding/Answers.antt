use Rattle.std.proofs.Common.{◌∙◌, append_assoc}
use Rattle.std.proofs.lemmas.Result.{on_ok_weaker}
use Rattle.entail_text.proofs.suggestion.add_finding.Goals as goal

pub returns-in_ok-extend_from_slice-in-Shown : goal.returns-in_ok-extend_from_slice-in-Shown
returns-in_ok-extend_from_slice-in-Shown c =
    on_ok_weaker c.add_found.result
    (λ is. is ∙ simp (append_assoc, c.in_ok-extend_from_slice-in-Shown.ensures.ok, c.in-Shown.is))
    c.add_found.ensures
