use Rattle.std.proofs.Common.{◌≡◌, ◌==◌, ◌++◌, List, [], ◌∷◌, false, refl, sym, ap, ◌∙◌, append_assoc, codes, flat_map, length, map}
use Rattle.std.proofs.lemmas.Result.{on_ok_weaker}
use Rattle.cov_ast.specs.View as view
use Rattle.cov_ast.specs.declared.cert.Proof.{Proof}
use Rattle.entail_refused.specs.GivenElsewhere.{number_text, numbers_line}
use Rattle.entail_refused.proofs.given.add_numbers.Goals as goal

numbers_are : (ps : List Proof) → (length ps == 0) ≡ false → codes "  given for:   " ++ flat_map number_text (map view.proof ps) ++ codes "\n" ≡ numbers_line (map view.proof ps)
numbers_are [] some = cc
numbers_are (p ∷ ps) some = refl

pub returns : goal.returns
returns c =
    let ps = c.args.proofs.now in
    let old = c.args.text.now in
    let head = codes "  given for:   " in
    let each = flat_map number_text (map view.proof ps) in
    on_ok_weaker c.extend_from_slice-2.result
    (λ is. is
    ∙ ap (λ t. t ++ codes "\n") (c.in_ok-add_each.ensures ∙ ap (λ t. t ++ each) c.in_ok-extend_from_slice.ensures.ok ∙ append_assoc old head each)
    ∙ append_assoc old (head ++ each) (codes "\n")
    ∙ ap (λ t. old ++ t) (numbers_are ps (sym c.is_empty.ensures ∙ c.if-is_empty.false)))
    c.extend_from_slice-2.ensures.ok
