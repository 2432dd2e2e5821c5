use Rattle.std.proofs.Common.{inl, inr, refl, map, string_bytes, rules}
use Rattle.call_reports.specs.AnswerViews.{seen}
use Rattle.call_reports.specs.declared.answers.Status.TheVariants as s
use Rattle.top_call.specs.Outcome.{plan_for}
use Rattle.top_call.proofs.OutcomeLaws.{answered, call_agree, call_annotated, call_code, call_complete, call_object, call_exact, call_fault, call_levels, call_passes, call_secure, call_swapped, lacking}
use Rattle.top_call.proofs.call.covern_with.Goals as goal

-- Memory ran out before an answer ------------------------------------------------------------------------------

pub returns-in-Err-NoMemory-clause-does : goal.returns-in-Err-NoMemory-clause-does
returns-in-Err-NoMemory-clause-does g c =
    let shelved = g.S.Shelf.shelved in
    let sunk = g.K.Sink.sunk in
    let judging = g.J.Judge.judging in
    lacking (shelved c.args.shelf.now) (shelved c.answer.new.shelf) (sunk c.args.sink.now) (sunk c.args.sink.now) (judging c.args.judge.now).judged
    (judging c.answer.new.judge).judged (plan_for (judging c.args.judge.now) (map string_bytes c.args.words.now)) (search rules) refl

pub returns-in-Err-NoMemory-clause-exact : goal.returns-in-Err-NoMemory-clause-exact
returns-in-Err-NoMemory-clause-exact g c sure =
    let shelved = g.S.Shelf.shelved in
    let sunk = g.K.Sink.sunk in
    let judging = g.J.Judge.judging in
    call_exact (judging c.args.judge.now) (shelved c.args.shelf.now) (shelved c.answer.new.shelf) (map string_bytes c.args.words.now) (sunk c.args.sink.now) (sunk c.args.sink.now) s.NoMemory
    (judging c.args.judge.now).judged (judging c.answer.new.judge).judged (returns-in-Err-NoMemory-clause-does g c) (inl sure)

pub returns-in-Err-NoMemory-clause-quiet : goal.returns-in-Err-NoMemory-clause-quiet
returns-in-Err-NoMemory-clause-quiet g c quiet =
    let shelved = g.S.Shelf.shelved in
    let sunk = g.K.Sink.sunk in
    let judging = g.J.Judge.judging in
    call_exact (judging c.args.judge.now) (shelved c.args.shelf.now) (shelved c.answer.new.shelf) (map string_bytes c.args.words.now) (sunk c.args.sink.now) (sunk c.args.sink.now) s.NoMemory
    (judging c.args.judge.now).judged (judging c.answer.new.judge).judged (returns-in-Err-NoMemory-clause-does g c) (inr quiet)

pub returns-in-Err-NoMemory-clause-agree : goal.returns-in-Err-NoMemory-clause-agree
returns-in-Err-NoMemory-clause-agree g c =
    let shelved = g.S.Shelf.shelved in
    let sunk = g.K.Sink.sunk in
    let judging = g.J.Judge.judging in
    call_agree (judging c.args.judge.now) (shelved c.args.shelf.now) (shelved c.answer.new.shelf) (map string_bytes c.args.words.now) (sunk c.args.sink.now) (sunk c.args.sink.now) s.NoMemory
    (judging c.args.judge.now).judged (judging c.answer.new.judge).judged (returns-in-Err-NoMemory-clause-does g c) c.accepted_programs_are_secure.ensures

pub returns-in-Err-NoMemory-clause-complete : goal.returns-in-Err-NoMemory-clause-complete
returns-in-Err-NoMemory-clause-complete g c quiet written =
    let shelved = g.S.Shelf.shelved in
    let sunk = g.K.Sink.sunk in
    let judging = g.J.Judge.judging in
    call_complete (judging c.args.judge.now) (shelved c.args.shelf.now) (shelved c.answer.new.shelf) (map string_bytes c.args.words.now) (sunk c.args.sink.now) (sunk c.args.sink.now) s.NoMemory
    (judging c.args.judge.now).judged (judging c.answer.new.judge).judged (returns-in-Err-NoMemory-clause-does g c) (λ e. cc) quiet written

pub returns-in-Err-NoMemory-clause-passes : goal.returns-in-Err-NoMemory-clause-passes
returns-in-Err-NoMemory-clause-passes g c =
    let shelved = g.S.Shelf.shelved in
    let sunk = g.K.Sink.sunk in
    let judging = g.J.Judge.judging in
    call_passes (judging c.args.judge.now) (shelved c.args.shelf.now) (shelved c.answer.new.shelf) (map string_bytes c.args.words.now) (sunk c.args.sink.now) (sunk c.args.sink.now) s.NoMemory
    (judging c.args.judge.now).judged (judging c.answer.new.judge).judged (returns-in-Err-NoMemory-clause-does g c)

-- An answer ----------------------------------------------------------------------------------------------------

pub returns-clause-does : goal.returns-clause-does
returns-clause-does g c =
    let shelved = g.S.Shelf.shelved in
    let sunk = g.K.Sink.sunk in
    let judging = g.J.Judge.judging in
    answered (shelved c.args.shelf.now) (shelved c.answer.new.shelf) (sunk c.args.sink.now) (sunk c.end.new.sink) (judging c.args.judge.now).judged
    (judging c.answer.new.judge).judged (plan_for (judging c.args.judge.now) (map string_bytes c.args.words.now))
    c.answer.result (seen c.match-answer.answer) c.end.result c.answer.ensures.does (search rules) (λ may_reply h. search rules) c.end.ensures.ends

pub returns-clause-exact : goal.returns-clause-exact
returns-clause-exact g c sure =
    let shelved = g.S.Shelf.shelved in
    let sunk = g.K.Sink.sunk in
    let judging = g.J.Judge.judging in
    call_exact (judging c.args.judge.now) (shelved c.args.shelf.now) (shelved c.answer.new.shelf) (map string_bytes c.args.words.now) (sunk c.args.sink.now) (sunk c.end.new.sink) c.end.result
    (judging c.args.judge.now).judged (judging c.answer.new.judge).judged (returns-clause-does g c) (inl sure)

pub returns-clause-quiet : goal.returns-clause-quiet
returns-clause-quiet g c quiet =
    let shelved = g.S.Shelf.shelved in
    let sunk = g.K.Sink.sunk in
    let judging = g.J.Judge.judging in
    call_exact (judging c.args.judge.now) (shelved c.args.shelf.now) (shelved c.answer.new.shelf) (map string_bytes c.args.words.now) (sunk c.args.sink.now) (sunk c.end.new.sink) c.end.result
    (judging c.args.judge.now).judged (judging c.answer.new.judge).judged (returns-clause-does g c) (inr quiet)

pub returns-clause-secure : goal.returns-clause-secure
returns-clause-secure g c done =
    let shelved = g.S.Shelf.shelved in
    let sunk = g.K.Sink.sunk in
    let judging = g.J.Judge.judging in
    call_secure (judging c.args.judge.now) (shelved c.args.shelf.now) (shelved c.answer.new.shelf) (map string_bytes c.args.words.now) (sunk c.args.sink.now) (sunk c.end.new.sink) c.end.result
    (judging c.args.judge.now).judged (judging c.answer.new.judge).judged (returns-clause-does g c) c.accepted_programs_are_secure.ensures done

pub returns-clause-code : goal.returns-clause-code
returns-clause-code g c done =
    let shelved = g.S.Shelf.shelved in
    let sunk = g.K.Sink.sunk in
    let judging = g.J.Judge.judging in
    call_code (judging c.args.judge.now) (shelved c.args.shelf.now) (shelved c.answer.new.shelf) (map string_bytes c.args.words.now) (sunk c.args.sink.now) (sunk c.end.new.sink) c.end.result
    (judging c.args.judge.now).judged (judging c.answer.new.judge).judged (returns-clause-does g c) c.accepted_programs_have_good_code.ensures.good done

pub returns-clause-object : goal.returns-clause-object
returns-clause-object g c done =
    let shelved = g.S.Shelf.shelved in
    let sunk = g.K.Sink.sunk in
    let judging = g.J.Judge.judging in
    call_object (judging c.args.judge.now) (shelved c.args.shelf.now) (shelved c.answer.new.shelf) (map string_bytes c.args.words.now) (sunk c.args.sink.now) (sunk c.end.new.sink) c.end.result
    (judging c.args.judge.now).judged (judging c.answer.new.judge).judged (returns-clause-does g c) c.accepted_programs_have_good_code.ensures.good done

pub returns-clause-swapped : goal.returns-clause-swapped
returns-clause-swapped g c done exact =
    let shelved = g.S.Shelf.shelved in
    let sunk = g.K.Sink.sunk in
    let judging = g.J.Judge.judging in
    call_swapped (judging c.args.judge.now) (shelved c.args.shelf.now) (shelved c.answer.new.shelf) (map string_bytes c.args.words.now) (sunk c.args.sink.now) (sunk c.end.new.sink) c.end.result
    (judging c.args.judge.now).judged (judging c.answer.new.judge).judged (returns-clause-does g c)
    (c.swapped_programs_are_secure.ensures (judging c.args.judge.now) (g.met.J.Judge.sound c.args.judge.now) exact) done

pub returns-clause-levels : goal.returns-clause-levels
returns-clause-levels g c done =
    let shelved = g.S.Shelf.shelved in
    let sunk = g.K.Sink.sunk in
    let judging = g.J.Judge.judging in
    call_levels (judging c.args.judge.now) (shelved c.args.shelf.now) (shelved c.answer.new.shelf) (map string_bytes c.args.words.now) (sunk c.args.sink.now) (sunk c.end.new.sink) c.end.result
    (judging c.args.judge.now).judged (judging c.answer.new.judge).judged (returns-clause-does g c) c.shown_programs_are_secure.ensures done

pub returns-clause-annotated : goal.returns-clause-annotated
returns-clause-annotated g c done =
    let shelved = g.S.Shelf.shelved in
    let sunk = g.K.Sink.sunk in
    let judging = g.J.Judge.judging in
    call_annotated (judging c.args.judge.now) (shelved c.args.shelf.now) (shelved c.answer.new.shelf) (map string_bytes c.args.words.now) (sunk c.args.sink.now) (sunk c.end.new.sink) c.end.result
    (judging c.args.judge.now).judged (judging c.answer.new.judge).judged (returns-clause-does g c) c.annotated_programs_are_secure.ensures done

pub returns-clause-agree : goal.returns-clause-agree
returns-clause-agree g c =
    let shelved = g.S.Shelf.shelved in
    let sunk = g.K.Sink.sunk in
    let judging = g.J.Judge.judging in
    call_agree (judging c.args.judge.now) (shelved c.args.shelf.now) (shelved c.answer.new.shelf) (map string_bytes c.args.words.now) (sunk c.args.sink.now) (sunk c.end.new.sink) c.end.result
    (judging c.args.judge.now).judged (judging c.answer.new.judge).judged (returns-clause-does g c) c.accepted_programs_are_secure.ensures

pub returns-clause-complete : goal.returns-clause-complete
returns-clause-complete g c quiet written =
    let shelved = g.S.Shelf.shelved in
    let sunk = g.K.Sink.sunk in
    let judging = g.J.Judge.judging in
    call_complete (judging c.args.judge.now) (shelved c.args.shelf.now) (shelved c.answer.new.shelf) (map string_bytes c.args.words.now) (sunk c.args.sink.now) (sunk c.end.new.sink) c.end.result
    (judging c.args.judge.now).judged (judging c.answer.new.judge).judged (returns-clause-does g c) c.end.ensures.write_fault quiet written

pub returns-clause-read_fault : goal.returns-clause-read_fault
returns-clause-read_fault g c fault =
    let shelved = g.S.Shelf.shelved in
    let sunk = g.K.Sink.sunk in
    let judging = g.J.Judge.judging in
    call_fault (judging c.args.judge.now) (shelved c.args.shelf.now) (shelved c.answer.new.shelf) (map string_bytes c.args.words.now) (sunk c.args.sink.now) (sunk c.end.new.sink) c.end.result
    (judging c.args.judge.now).judged (judging c.answer.new.judge).judged (returns-clause-does g c) fault

pub returns-clause-passes : goal.returns-clause-passes
returns-clause-passes g c =
    let shelved = g.S.Shelf.shelved in
    let sunk = g.K.Sink.sunk in
    let judging = g.J.Judge.judging in
    call_passes (judging c.args.judge.now) (shelved c.args.shelf.now) (shelved c.answer.new.shelf) (map string_bytes c.args.words.now) (sunk c.args.sink.now) (sunk c.end.new.sink) c.end.result
    (judging c.args.judge.now).judged (judging c.answer.new.judge).judged (returns-clause-does g c)
