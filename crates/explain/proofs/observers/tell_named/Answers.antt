use Rattle.std.proofs.Common.{subst, Err}
use Rattle.cov_ast.specs.View as view
use Rattle.level_text.specs.Views as level_view
use Rattle.levels.specs.Accepted.{DecidesForAll}
use Rattle.explain.proofs.LevelLaws.{told_accepted, told_refused}
use Rattle.explain.proofs.observers.tell_named.Goals as goal

pub add_accepted-requires-clause-counted : goal.add_accepted-requires-clause-counted
add_accepted-requires-clause-counted c = c.in-Ok.ensures.answer.1 0 c.requires.levels.some

pub add_observer-requires-clause-inside : goal.add_observer-requires-clause-inside
add_observer-requires-clause-inside c =
    (subst (λ fault. DecidesForAll (level_view.levels c.args.l.now) (view.program c.args.program.now) (Err fault)) c.in-Err-Refused.field-0-is
    c.in-Err-Refused.ensures.answer).level

pub returns-in_ok-add_accepted-in-Ok : goal.returns-in_ok-add_accepted-in-Ok
returns-in_ok-add_accepted-in-Ok c =
    told_accepted c.args.name.now c.args.bytes.now (level_view.levels c.args.l.now) (view.program c.args.program.now) c.args.text.now c.add_accepted.new.text
    c.in-Ok.ensures.answer.0 c.in_ok-add_accepted-in-Ok.ensures

pub returns-in_ok-add_observer-in-Err-Refused : goal.returns-in_ok-add_observer-in-Err-Refused
returns-in_ok-add_observer-in-Err-Refused c =
    let first = subst (λ fault. DecidesForAll (level_view.levels c.args.l.now) (view.program c.args.program.now) (Err fault)) c.in-Err-Refused.field-0-is
    c.in-Err-Refused.ensures.answer in
    told_refused c.args.name.now c.args.bytes.now (level_view.levels c.args.l.now) (view.program c.args.program.now) c.args.text.now c.add_observer.new.text
    c.in-Err-Refused.observer c.in-Err-Refused.refusal first c.in_ok-add_observer-in-Err-Refused.ensures
