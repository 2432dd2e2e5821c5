use Rattle.std.proofs.Common.{[], ◌≡◌, ◌++◌, ◌∙◌, OnOk, ap, append_assoc, codes, decimal, if◌then◌else◌, subst, sym}
use Rattle.std.proofs.lemmas.Bool.{ne_eqb}
use Rattle.std.proofs.lemmas.Result.{on_ok_weaker}
use Rattle.explain.proofs.others.add_unsought.Goals as goal

pub returns : goal.returns
returns c =
    let old = c.args.text.now in
    let head = codes "and as many more that weren't looked at: " in
    let count = decimal c.args.count in
    let end = codes "\n" in
    let so_far = c.in_ok-add_number.ensures ∙ ap (λ s. s ++ count) c.in_ok-extend_from_slice.ensures.ok in
    subst (λ b. OnOk c.extend_from_slice-2.result (c.extend_from_slice-2.new.self ≡ old ++ (if b then [] else head ++ (count ++ end)))) (sym (ne_eqb c.args.count 0 c.if-count-eq0.false))
    (on_ok_weaker c.extend_from_slice-2.result
    (λ is. is ∙ ap (λ s. s ++ end) so_far ∙ append_assoc (old ++ head) count end ∙ append_assoc old head (count ++ end))
    c.extend_from_slice-2.ensures.ok)
