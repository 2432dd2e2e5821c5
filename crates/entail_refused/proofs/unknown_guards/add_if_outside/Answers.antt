use Rattle.std.proofs.Common.{◌∙◌, append_assoc}
use Rattle.std.proofs.lemmas.Result.{on_ok_weaker}
use Rattle.entail_refused.proofs.unknown_guards.add_if_outside.Goals as goal

pub returns-in_ok-add_line_of-in-Some : goal.returns-in_ok-add_line_of-in-Some
returns-in_ok-add_line_of-in-Some c =
    on_ok_weaker c.add_cause.result
    (λ is. is ∙ simp (append_assoc, c.in_ok-add_line_of-in-Some.ensures, c.in_ok-extend_from_slice-in-Some-2.ensures.ok, c.in_ok-add_expr-in-Some.ensures, c.in_ok-extend_from_slice-in-Some.ensures.ok, c.in_ok-names-in-Some.ensures, c.in_ok-e-in-Some.ensures, c.in-Some.is))
    c.add_cause.ensures
