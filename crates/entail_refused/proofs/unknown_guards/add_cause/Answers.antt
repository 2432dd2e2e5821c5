use Rattle.std.proofs.Common.{◌∙◌, append_assoc}
use Rattle.std.proofs.lemmas.Result.{on_ok_weaker}
use Rattle.entail_refused.proofs.unknown_guards.add_cause.Goals as goal

pub returns : goal.returns
returns c =
    on_ok_weaker c.add_unstable_end.result
    (λ is. is ∙ simp (append_assoc, c.in_ok-extend_from_slice-2.ensures.ok, c.in_ok-add_variable_name.ensures, c.in_ok-extend_from_slice.ensures.ok))
    c.add_unstable_end.ensures
