use Rattle.std.proofs.Common.{◌++◌, ◌∙◌, ap₂, append_assoc, codes}
use Rattle.std.proofs.lemmas.Result.{on_ok_weaker}
use Rattle.entail_refused.proofs.invariants_without.add_lock_part.Goals as goal

pub returns : goal.returns
returns c =
    let old = c.args.text.now in
    let front = codes "   (the lock " in
    let name = c.args.lock.now.name in
    on_ok_weaker c.extend_from_slice-2.result
    (λ is. is ∙ ap₂ (λ s n. s ++ n) c.in_ok-extend_from_slice.ensures.ok c.text.ensures.text ∙ append_assoc old front name)
    c.extend_from_slice-2.ensures.ok
