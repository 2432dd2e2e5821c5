use Rattle.std.proofs.Common.{◌≡◌, ◌∙◌, ◌++◌, OnOk, ap, append_assoc, codes, subst}
use Rattle.entail_text.specs.EntailmentLines.{place_of}
use Rattle.entail_text.proofs.entailment.add_place.Goals as goal

pub returns : goal.returns
returns c =
    subst (λ t. OnOk c.add_path.result (c.add_path.new.text ≡ t))
    (ap (λ t. t ++ place_of c.args.path.now) c.in_ok-extend_from_slice.ensures.ok
    ∙ append_assoc c.args.text.now (codes "given; fails at ") (place_of c.args.path.now))
    c.add_path.ensures
