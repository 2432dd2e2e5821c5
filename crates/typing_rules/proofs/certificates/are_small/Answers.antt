use Rattle.std.proofs.Common.{◌∙◌, sym}
use Rattle.typing_rules.proofs.UnprovedLaws.{small_rest, large_preds}
use Rattle.typing_rules.proofs.certificates.are_small.Goals as goal

pub returns-then-has_small_preds : goal.returns-then-has_small_preds
returns-then-has_small_preds c p t a kept =
    let small = sym (c.has_small_preds.ensures p t a kept) ∙ c.if-has_small_preds.true in
    c.are_small_entailments.ensures ∙ small_rest a.preds small c.args.entailments.now

pub returns-else-has_small_preds : goal.returns-else-has_small_preds
returns-else-has_small_preds c p t a kept =
    let large = sym (c.has_small_preds.ensures p t a kept) ∙ c.if-has_small_preds.false in
    c.if-has_small_preds.false ∙ sym (large_preds a.preds large c.args.entailments.now (sym c.is_empty.ensures ∙ c.if-is_empty.false))
