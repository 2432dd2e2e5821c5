use Rattle.std.proofs.Common.{◌++◌, ◌∙◌, refl, sym, ap, subst, append_assoc}
use Rattle.call_reports.specs.AnswerViews.{seen}
use Rattle.explain.specs.Explanations.{explanation}
use Rattle.explain.specs.Tellings.{AddsBeside, name_front}
use Rattle.explain.proofs.files.tell_judged.Goals as goal

pub returns : goal.returns
returns c =
    let name = c.args.name.now in
    let bytes = c.args.bytes.now in
    let reply = seen c.answer-answer.result in
    let added = c.in_ok-add_beside.ensures in
    let more = added.0 in
    let front = name_front c.args.manner.named name reply in
    let explained = explanation name bytes reply in (
      reply,
      front ++ (explained ++ more),
      (
        c.answer-answer.ensures.checks bytes c.requires.found,
        (more, subst (λ r. AddsBeside c.args.manner.beside c.args.manner.first name bytes r more) (sym c.answer-answer.ensures.reply) added.1, refl),
      ),
      c.status_for-status.ensures,
      added.2 ∙ ap (λ t. t ++ more) (c.in_ok-add_explanation.ensures ∙ ap (λ t. t ++ explained) c.in_ok-add_name.ensures)
          ∙ append_assoc (c.args.text.now ++ front) explained more ∙ append_assoc c.args.text.now front (explained ++ more),
    )
