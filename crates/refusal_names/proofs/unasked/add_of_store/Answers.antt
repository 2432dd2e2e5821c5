use Rattle.std.proofs.Common.{◌∙◌, append_assoc}
use Rattle.std.proofs.lemmas.Result.{on_ok_weaker}
use Rattle.refusal_names.proofs.unasked.add_of_store.Goals as goal

pub returns-in_ok-add_variable_name-in-Some : goal.returns-in_ok-add_variable_name-in-Some
returns-in_ok-add_variable_name-in-Some c =
    on_ok_weaker c.add_hider.result
    (λ is. is ∙ simp (append_assoc, c.lock_over.ensures, c.as_slice.ensures, c.in_ok-add_variable_name-in-Some.ensures, c.in_ok-extend_from_slice-in-Some.ensures.ok, c.in-Some.is))
    c.add_hider.ensures
