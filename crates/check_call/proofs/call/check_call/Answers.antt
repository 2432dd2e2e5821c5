use Rattle.std.proofs.Common.{inl, inr, refl, map, string_bytes, rules}
use Rattle.call_reports.specs.AnswerViews.{seen}
use Rattle.call_reports.specs.declared.answers.Status.TheVariants as s
use Rattle.check_call.specs.Checking.{plan_for}
use Rattle.check_call.proofs.CallLaws.{answered, call_complete, call_exact, call_fault, call_passes, call_secure, lacking}
use Rattle.check_call.proofs.call.check_call.Goals as goal

-- Memory ran out before an answer ------------------------------------------------------------------------------

pub returns-in-Err-NoMemory-clause-does : goal.returns-in-Err-NoMemory-clause-does
returns-in-Err-NoMemory-clause-does g c =
    let shelved = g.S.Shelf.shelved in
    let sunk = g.K.Sink.sunk in
    lacking (shelved c.args.shelf.now) (shelved c.answer.new.shelf) (sunk c.args.sink.now) (sunk c.args.sink.now) (plan_for (map string_bytes c.args.words.now)) (search rules) refl

pub returns-in-Err-NoMemory-clause-exact : goal.returns-in-Err-NoMemory-clause-exact
returns-in-Err-NoMemory-clause-exact g c sure =
    let shelved = g.S.Shelf.shelved in
    let sunk = g.K.Sink.sunk in
    call_exact (shelved c.args.shelf.now) (shelved c.answer.new.shelf) (map string_bytes c.args.words.now) (sunk c.args.sink.now) (sunk c.args.sink.now) s.NoMemory
    (returns-in-Err-NoMemory-clause-does g c) (inl sure)

pub returns-in-Err-NoMemory-clause-quiet : goal.returns-in-Err-NoMemory-clause-quiet
returns-in-Err-NoMemory-clause-quiet g c quiet =
    let shelved = g.S.Shelf.shelved in
    let sunk = g.K.Sink.sunk in
    call_exact (shelved c.args.shelf.now) (shelved c.answer.new.shelf) (map string_bytes c.args.words.now) (sunk c.args.sink.now) (sunk c.args.sink.now) s.NoMemory
    (returns-in-Err-NoMemory-clause-does g c) (inr quiet)

pub returns-in-Err-NoMemory-clause-complete : goal.returns-in-Err-NoMemory-clause-complete
returns-in-Err-NoMemory-clause-complete g c quiet written =
    let shelved = g.S.Shelf.shelved in
    let sunk = g.K.Sink.sunk in
    call_complete (shelved c.args.shelf.now) (shelved c.answer.new.shelf) (map string_bytes c.args.words.now) (sunk c.args.sink.now) (sunk c.args.sink.now) s.NoMemory
    (returns-in-Err-NoMemory-clause-does g c) (λ e. cc) quiet written

pub returns-in-Err-NoMemory-clause-passes : goal.returns-in-Err-NoMemory-clause-passes
returns-in-Err-NoMemory-clause-passes g c =
    let shelved = g.S.Shelf.shelved in
    let sunk = g.K.Sink.sunk in
    call_passes (shelved c.args.shelf.now) (shelved c.answer.new.shelf) (map string_bytes c.args.words.now) (sunk c.args.sink.now) (sunk c.args.sink.now) s.NoMemory
    (returns-in-Err-NoMemory-clause-does g c)

-- An answer ----------------------------------------------------------------------------------------------------

pub returns-clause-does : goal.returns-clause-does
returns-clause-does g c =
    let shelved = g.S.Shelf.shelved in
    let sunk = g.K.Sink.sunk in
    answered (shelved c.args.shelf.now) (shelved c.answer.new.shelf) (sunk c.args.sink.now) (sunk c.end.new.sink) (plan_for (map string_bytes c.args.words.now))
    c.answer.result (seen c.match-answer.answer) c.end.result c.answer.ensures (search rules) (λ may_reply h. search rules) c.end.ensures.ends

pub returns-clause-exact : goal.returns-clause-exact
returns-clause-exact g c sure =
    let shelved = g.S.Shelf.shelved in
    let sunk = g.K.Sink.sunk in
    call_exact (shelved c.args.shelf.now) (shelved c.answer.new.shelf) (map string_bytes c.args.words.now) (sunk c.args.sink.now) (sunk c.end.new.sink) c.end.result
    (returns-clause-does g c) (inl sure)

pub returns-clause-quiet : goal.returns-clause-quiet
returns-clause-quiet g c quiet =
    let shelved = g.S.Shelf.shelved in
    let sunk = g.K.Sink.sunk in
    call_exact (shelved c.args.shelf.now) (shelved c.answer.new.shelf) (map string_bytes c.args.words.now) (sunk c.args.sink.now) (sunk c.end.new.sink) c.end.result
    (returns-clause-does g c) (inr quiet)

pub returns-clause-secure : goal.returns-clause-secure
returns-clause-secure g c done =
    let shelved = g.S.Shelf.shelved in
    let sunk = g.K.Sink.sunk in
    call_secure (shelved c.args.shelf.now) (shelved c.answer.new.shelf) (map string_bytes c.args.words.now) (sunk c.args.sink.now) (sunk c.end.new.sink) c.end.result
    (returns-clause-does g c) c.accepted_programs_are_secure.ensures done

pub returns-clause-complete : goal.returns-clause-complete
returns-clause-complete g c quiet written =
    let shelved = g.S.Shelf.shelved in
    let sunk = g.K.Sink.sunk in
    call_complete (shelved c.args.shelf.now) (shelved c.answer.new.shelf) (map string_bytes c.args.words.now) (sunk c.args.sink.now) (sunk c.end.new.sink) c.end.result
    (returns-clause-does g c) c.end.ensures.write_fault quiet written

pub returns-clause-read_fault : goal.returns-clause-read_fault
returns-clause-read_fault g c fault =
    let shelved = g.S.Shelf.shelved in
    let sunk = g.K.Sink.sunk in
    call_fault (shelved c.args.shelf.now) (shelved c.answer.new.shelf) (map string_bytes c.args.words.now) (sunk c.args.sink.now) (sunk c.end.new.sink) c.end.result
    (returns-clause-does g c) fault

pub returns-clause-passes : goal.returns-clause-passes
returns-clause-passes g c =
    let shelved = g.S.Shelf.shelved in
    let sunk = g.K.Sink.sunk in
    call_passes (shelved c.args.shelf.now) (shelved c.answer.new.shelf) (map string_bytes c.args.words.now) (sunk c.args.sink.now) (sunk c.end.new.sink) c.end.result
    (returns-clause-does g c)
