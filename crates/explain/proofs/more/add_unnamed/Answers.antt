use Rattle.std.proofs.Common.{◌++◌, ◌∙◌, ap, append_assoc}
use Rattle.std.proofs.lemmas.Result.{on_ok_weaker}
use Rattle.explain.specs.HiddenText.{text_warnings}
use Rattle.explain.specs.Tellings.{unnamed_asked}
use Rattle.explain.specs.WarningSentences.{warning_lines}
use Rattle.explain.proofs.more.add_unnamed.Goals as goal

pub returns : goal.returns
returns c p spells =
    let asked = unnamed_asked p c.args.refusal.now in
    let warned = warning_lines c.args.name.now c.args.bytes.now (text_warnings c.args.bytes.now) in
    on_ok_weaker c.add_text_warnings.result
    (λ is. is ∙ ap (λ s. s ++ warned) (c.in_ok-add_nearest_declared.ensures p spells) ∙ append_assoc c.args.text.now asked warned) c.add_text_warnings.ensures
