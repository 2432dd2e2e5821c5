use Rattle.std.proofs.Common.{◌++◌, ◌∙◌, append_assoc, codes}
use Rattle.std.proofs.lemmas.Result.{on_ok_weaker}
use Rattle.explain.specs.TokenSentences.{sign_hint}
use Rattle.explain.proofs.words.add_sign_sentence.Goals as goal

pub returns : goal.returns
returns c =
    let head = codes "no program goes on with this token" in
    on_ok_weaker c.extend_from_slice-2.result
    (λ is. is ∙ (λ i. c.in_ok-extend_from_slice.ensures.ok i ++ (c.as_bytes.ensures.value ∙ c.sign_hint.ensures) i)
    ∙ append_assoc c.args.text.now head (sign_hint c.args.first c.args.others.now))
    c.extend_from_slice-2.ensures.ok
