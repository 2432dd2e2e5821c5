use Rattle.std.proofs.Common.{◌≡◌, OnOk, subst}
use Rattle.code_text.proofs.ListLaws.{list_added}
use Rattle.code_text.proofs.text.add_parts.Goals as goal

pub returns-clause-text : goal.returns-clause-text
returns-clause-text c =
    subst (λ t. OnOk c.add_threads.result (c.add_threads.new.out ≡ t)) (list_added c.args.parts.now c.args.out.now)
    (rw (c.in_ok-add_names-2.ensures.text, c.in_ok-add_names.ensures.text, c.in_ok-add_head.ensures, c.as_slice.ensures, c.as_slice-2.ensures, c.as_slice-3.ensures) at c.add_threads.ensures.text)
