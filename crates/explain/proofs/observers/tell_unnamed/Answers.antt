use Rattle.std.proofs.Common.{◌++◌, ◌∙◌, None, refl, ap, append_assoc}
use Rattle.call_reports.specs.Replies.{refused}
use Rattle.explain.specs.Explanations.{explanation}
use Rattle.explain.specs.HiddenText.{text_warnings}
use Rattle.explain.specs.Tellings.{unnamed_asked}
use Rattle.explain.specs.WarningSentences.{warning_lines}
use Rattle.explain.proofs.observers.tell_unnamed.Goals as goal

pub returns : goal.returns
returns c p spells =
    let name = c.args.name.now in
    let bytes = c.args.bytes.now in
    let told = explanation name bytes (refused c.args.refusal None) in
    let more = unnamed_asked p c.args.refusal ++ warning_lines name bytes (text_warnings bytes) in (
      refl,
      c.in_ok-add_unnamed.ensures p spells ∙ ap (λ s. s ++ more) c.in_ok-add_explanation.ensures ∙ append_assoc c.args.text.now told more,
    )
