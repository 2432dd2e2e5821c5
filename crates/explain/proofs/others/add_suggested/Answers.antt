use Rattle.std.proofs.Common.{[], ◌≡◌, ◌++◌, ◌∙◌, OnOk, ap, append_assoc, flat_map, if◌then◌else◌, subst, sym}
use Rattle.std.proofs.lemmas.Result.{on_ok_weaker}
use Rattle.cov_ast.specs.View as view
use Rattle.explain.specs.OtherTellings.{suggested_lines, brief_text, suggested_head}
use Rattle.explain.proofs.others.add_suggested.Goals as goal

pub returns : goal.returns
unfolding suggested_lines
returns c =
    let old = c.args.text.now in
    let brief = flat_map (brief_text c.args.name.now c.args.bytes.now (view.program c.args.program.now)) c.args.found.now in
    subst (λ b. OnOk c.add_briefly.result (c.add_briefly.new.text ≡ old ++ (if b then [] else suggested_head ++ brief)))
    (sym (sym c.is_empty.ensures ∙ c.if-is_empty.false))
    (on_ok_weaker c.add_briefly.result
    (λ is. is ∙ ap (λ s. s ++ brief) c.in_ok-extend_from_slice.ensures.ok ∙ append_assoc old suggested_head brief)
    c.add_briefly.ensures)
