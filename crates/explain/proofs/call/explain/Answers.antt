use Rattle.std.proofs.Common.{map, string_bytes, Ok, Err, inl, inr, refl, subst}
use Rattle.call_reports.specs.declared.answers.Status.TheVariants as s
use Rattle.cov_io.specs.Sinks.{Writes}
use Rattle.explain.specs.FileCalls.{out_of_memory, told}
use Rattle.explain.proofs.CallLaws.{answers_pass, explained}
use Rattle.explain.proofs.call.explain.Goals as goal

pub returns-in_default-clause-does : goal.returns-in_default-clause-does
returns-in_default-clause-does g c =
    let sunk = g.K.Sink.sunk c.args.sink.now in
    explained (g.S.Shelf.shelved c.args.shelf.now) (g.S.Shelf.shelved c.answer.new.shelf) sunk sunk (map string_bytes c.args.names.now) s.NoMemory out_of_memory
    c.in_default.ensures (refl, refl)

pub returns-in_default-clause-passes : goal.returns-in_default-clause-passes
returns-in_default-clause-passes g c =
    answers_pass (g.S.Shelf.shelved c.answer.new.shelf) out_of_memory (map string_bytes c.args.names.now) (g.S.Shelf.shelved c.args.shelf.now) c.in_default.ensures

pub returns-in-Ok-write_whole-clause-does : goal.returns-in-Ok-write_whole-clause-does
returns-in-Ok-write_whole-clause-does g c =
    let old = g.K.Sink.sunk c.args.sink.now in
    let new = g.K.Sink.sunk c.write_whole.new.sink in
    explained (g.S.Shelf.shelved c.args.shelf.now) (g.S.Shelf.shelved c.answer.new.shelf) old new (map string_bytes c.args.names.now) c.in-Ok.status
    (told c.answer.new.text c.in-Ok.status) c.in-Ok.ensures
    (inl (refl, subst (λ t. Writes old new t (Ok tt)) c.as_slice.ensures c.in-Ok-write_whole.ensures.answer))

pub returns-in-Ok-write_whole-clause-passes : goal.returns-in-Ok-write_whole-clause-passes
returns-in-Ok-write_whole-clause-passes g c =
    answers_pass (g.S.Shelf.shelved c.answer.new.shelf) (told c.answer.new.text c.in-Ok.status) (map string_bytes c.args.names.now)
    (g.S.Shelf.shelved c.args.shelf.now) c.in-Ok.ensures

pub returns-clause-does : goal.returns-clause-does
returns-clause-does g c =
    let old = g.K.Sink.sunk c.args.sink.now in
    let new = g.K.Sink.sunk c.write_whole.new.sink in
    explained (g.S.Shelf.shelved c.args.shelf.now) (g.S.Shelf.shelved c.answer.new.shelf) old new (map string_bytes c.args.names.now) s.WriteFault
    (told c.answer.new.text c.in-Ok.status) c.in-Ok.ensures
    (inr (refl, c.in-Err.field-0, subst (λ t. Writes old new t (Err c.in-Err.field-0)) c.as_slice.ensures c.in-Err.ensures.answer))

pub returns-clause-passes : goal.returns-clause-passes
returns-clause-passes g c =
    answers_pass (g.S.Shelf.shelved c.answer.new.shelf) (told c.answer.new.text c.in-Ok.status) (map string_bytes c.args.names.now)
    (g.S.Shelf.shelved c.args.shelf.now) c.in-Ok.ensures
