use Rattle.std.proofs.Common.{option_map, ap, sym, subst, ◌∙◌}
use Rattle.std.specs.Str.{IsUtf8}
use Rattle.serde_json.specs.Find.{get_member}
use Rattle.serde_json.specs.View.{view, members_view}
use Rattle.serde_json.proofs.Views.{view_of_ref, view-lookup}
use Rattle.schedule_replay.proofs.ReadLaws.{name_utf8}
use Rattle.schedule_replay.proofs.values.member.Goals as goal

pub returns-in-Ok : goal.returns-in-Ok
returns-in-Ok c =
    view_of_ref c.get.result ∙ ap (option_map view) c.get.ensures.value ∙ view-lookup c.in-Ok.text.now c.args.members.now.entries
    ∙ ap (λ name. get_member name (members_view c.args.members.now.entries)) (c.in-Ok.ensures.cases.0 ∙ c.text.ensures.text)

pub returns-in-Err : goal.returns-in-Err
returns-in-Err c = absurd (c.in-Err.ensures.cases.0 (subst IsUtf8 (sym c.text.ensures.text) (name_utf8 c.args.name.now c.text.ensures.name)))
