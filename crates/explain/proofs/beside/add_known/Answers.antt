use Rattle.std.proofs.Common.{◌≡◌, refl, rules}
use Rattle.std.proofs.lemmas.Result.{on_ok_weaker}
use Rattle.explain.proofs.TellingLaws.{points_of_accepted, points_of_refused, points_of_unnamed}
use Rattle.explain.proofs.beside.add_known.Goals as goal

pub returns-in-Unnamed : goal.returns-in-Unnamed
returns-in-Unnamed c =
    points_of_unnamed c.args.name.now c.args.bytes.now c.args.number c.args.judged.now c.args.text.now c.args.text.now c.requires.found c.in-Unnamed.field-0 c.in-Unnamed.is refl

pub returns-in-Refused : goal.returns-in-Refused
returns-in-Refused c =
    let same : c.deref.result.now ≡ c.in-Refused.program.value = search rules in
    on_ok_weaker c.add_points.result
    (points_of_refused c.args.name.now c.args.bytes.now c.args.number c.args.judged.now c.args.text.now c.add_points.new.text c.requires.found c.in-Refused.field-0
    c.in-Refused.program c.in-Refused.is c.deref.result.now same) c.add_points.ensures

pub returns-in-Accepted : goal.returns-in-Accepted
returns-in-Accepted c =
    let same : c.deref-in-Accepted.result.now ≡ c.in-Accepted.program.value = search rules in
    on_ok_weaker c.add_points-in-Accepted.result
    (points_of_accepted c.args.name.now c.args.bytes.now c.args.number c.args.judged.now c.args.text.now c.add_points-in-Accepted.new.text c.requires.found c.in-Accepted.field-0
    c.in-Accepted.program c.in-Accepted.is c.deref-in-Accepted.result.now same) c.add_points-in-Accepted.ensures
