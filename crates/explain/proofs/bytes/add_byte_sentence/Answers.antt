use Rattle.std.proofs.Common.{◌++◌, ◌∙◌, append_assoc, codes}
use Rattle.std.proofs.lemmas.Result.{on_ok_weaker}
use Rattle.explain.specs.ByteSentences.{byte_hint}
use Rattle.explain.proofs.bytes.add_byte_sentence.Goals as goal

pub returns : goal.returns
returns c =
    let head = codes "this byte begins no token, blank or comment" in
    on_ok_weaker c.extend_from_slice-2.result
    (λ is. is ∙ (λ i. c.in_ok-extend_from_slice.ensures.ok i ++ (c.as_bytes.ensures.value ∙ c.byte_hint.ensures) i)
    ∙ append_assoc c.args.text.now head (byte_hint c.args.rest.now))
    c.extend_from_slice-2.ensures.ok
