use Rattle.std.proofs.Common.{◌≡◌, rules}
use Rattle.std.proofs.lemmas.Result.{on_ok_weaker}
use Rattle.explain.proofs.TellingLaws.{code_of_accepted, code_of_malformed, code_of_refused, code_of_unnamed}
use Rattle.explain.proofs.beside.add_code.Goals as goal

pub returns-in-Malformed : goal.returns-in-Malformed
returns-in-Malformed c =
    on_ok_weaker c.add_more.result
    (code_of_malformed c.args.name.now c.args.bytes.now c.args.judged.now c.args.text.now c.add_more.new.text c.in-Malformed.field-0 c.in-Malformed.is)
    c.add_more.ensures

pub returns-in-Unnamed : goal.returns-in-Unnamed
returns-in-Unnamed c =
    on_ok_weaker c.add_more-in-Unnamed.result
    (code_of_unnamed c.args.name.now c.args.bytes.now c.args.judged.now c.args.text.now c.add_more-in-Unnamed.new.text c.in-Unnamed.field-0 c.in-Unnamed.is)
    c.add_more-in-Unnamed.ensures

pub returns-in-Refused : goal.returns-in-Refused
returns-in-Refused c =
    on_ok_weaker c.add_more-in-Refused.result
    (code_of_refused c.args.name.now c.args.bytes.now c.args.judged.now c.args.text.now c.add_more-in-Refused.new.text c.in-Refused.field-0 c.in-Refused.field-1
    c.in-Refused.is)
    c.add_more-in-Refused.ensures

pub returns-in-Accepted : goal.returns-in-Accepted
returns-in-Accepted c =
    let same : c.deref.result.now ≡ c.in-Accepted.program.value = search rules in
    on_ok_weaker c.add_compiled.result
    (code_of_accepted c.args.name.now c.args.bytes.now c.args.judged.now c.args.text.now c.add_compiled.new.text c.requires.found c.in-Accepted.field-0
    c.in-Accepted.program c.in-Accepted.is c.deref.result.now same) c.add_compiled.ensures
