use Rattle.std.proofs.Common.{◌++◌, ◌∙◌, ap, ap₂, append_assoc, codes}
use Rattle.std.proofs.lemmas.Result.{on_ok_weaker}
use Rattle.entail_origins.specs.TypeLines.{place_text}
use Rattle.entail_origins.proofs.type_classes.add_hider_lock.Goals as goal

pub returns : goal.returns
returns c =
    let old = c.args.text.now in
    let front = codes "0 (the lock " in
    let name = c.args.lock.now.name in
    let at = place_text c.args.bytes.now c.args.lock.now.at in
    let end = codes ", hides it: under `nowrite` its class would count)" in
    let named = c.in_ok-extend_from_slice-2.ensures.ok ∙ ap₂ (λ s n. s ++ n) c.in_ok-extend_from_slice.ensures.ok c.text.ensures.text in
    let placed = c.in_ok-add_place.ensures ∙ ap (λ s. s ++ at) named in
    on_ok_weaker c.extend_from_slice-3.result
    (λ is. is
    ∙ ap (λ s. s ++ end) placed
    ∙ append_assoc ((old ++ front) ++ name) at end
    ∙ append_assoc (old ++ front) name (at ++ end)
    ∙ append_assoc old front (name ++ (at ++ end)))
    c.extend_from_slice-3.ensures.ok
