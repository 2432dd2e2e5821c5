use Rattle.std.proofs.Common.{◌++◌, ◌∙◌, ap, ap₂, append_assoc, codes}
use Rattle.std.proofs.lemmas.Result.{on_ok_weaker}
use Rattle.cov_expr.specs.View.{term}
use Rattle.entail_text.specs.BrokenLines.{memory_text, wanted}
use Rattle.entail_text.proofs.broken.add_broken.Goals as goal

pub returns : goal.returns
returns c =
    let old = c.args.text.now in
    let head = codes "  breaks it:    " in
    let memory = memory_text c.args.names.now c.args.m.now in
    let said = codes "   (all hypotheses hold there, and the goal doesn't: no certificate can show it, unless " in
    let lacking = wanted (term c.args.goal.now) in
    let end = codes ")\n" in
    let told = c.in_ok-add_memory.ensures ∙ ap (λ s. s ++ memory) c.in_ok-extend_from_slice.ensures.ok in
    let unless = c.in_ok-extend_from_slice-2.ensures.ok ∙ ap (λ s. s ++ said) told in
    let words = c.in_ok-extend_from_slice-3.ensures.ok ∙ ap₂ (λ s n. s ++ n) unless (c.as_bytes.ensures.value ∙ c.wanted.ensures) in
    on_ok_weaker c.extend_from_slice-4.result
    (λ is. is
    ∙ ap (λ s. s ++ end) words
    ∙ append_assoc (((old ++ head) ++ memory) ++ said) lacking end
    ∙ append_assoc ((old ++ head) ++ memory) said (lacking ++ end)
    ∙ append_assoc (old ++ head) memory (said ++ (lacking ++ end))
    ∙ append_assoc old head (memory ++ (said ++ (lacking ++ end))))
    c.extend_from_slice-4.ensures.ok
