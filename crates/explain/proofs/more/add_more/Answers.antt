use Rattle.std.proofs.Common.{◌≡◌, rules}
use Rattle.std.proofs.lemmas.Result.{on_ok_weaker}
use Rattle.explain.proofs.TellingLaws.{added_accepted, added_refused, added_unnamed}
use Rattle.explain.proofs.more.add_more.Goals as goal

pub returns-in-Unnamed : goal.returns-in-Unnamed
returns-in-Unnamed c =
    added_unnamed c.args.first c.args.name.now c.args.bytes.now c.args.judged.now c.args.text.now c.add_unnamed.new.text c.requires.found c.add_unnamed.result
    c.in-Unnamed.refusal c.in-Unnamed.is c.add_unnamed.ensures

pub returns-in-Refused : goal.returns-in-Refused
returns-in-Refused c =
    let same : c.deref.result.now ≡ c.in-Refused.program.value = search rules in
    on_ok_weaker c.add_refused.result
    (added_refused c.args.first c.args.name.now c.args.bytes.now c.args.judged.now c.args.text.now c.add_refused.new.text c.requires.found c.in-Refused.refusal
    c.in-Refused.program c.in-Refused.is c.deref.result.now same) c.add_refused.ensures

pub returns-in-Accepted : goal.returns-in-Accepted
returns-in-Accepted c =
    let same : c.deref-in-Accepted.result.now ≡ c.in-Accepted.program.value = search rules in
    on_ok_weaker c.add_warnings.result
    (added_accepted c.args.first c.args.name.now c.args.bytes.now c.args.judged.now c.args.text.now c.add_warnings.new.text c.requires.found c.in-Accepted.field-0
    c.in-Accepted.program c.in-Accepted.is c.deref-in-Accepted.result.now same) c.add_warnings.ensures
