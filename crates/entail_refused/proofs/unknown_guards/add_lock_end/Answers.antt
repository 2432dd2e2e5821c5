use Rattle.std.proofs.Common.{◌∙◌, append_assoc}
use Rattle.std.proofs.lemmas.Result.{on_ok_weaker}
use Rattle.entail_refused.proofs.unknown_guards.add_lock_end.Goals as goal

pub returns : goal.returns
returns c =
    on_ok_weaker c.extend_from_slice-3.result
    (λ is. is ∙ simp (append_assoc, c.in_ok-extend_from_slice-2.ensures.ok, c.text.ensures.text, c.in_ok-extend_from_slice.ensures.ok))
    c.extend_from_slice-3.ensures.ok
