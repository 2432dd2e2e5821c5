use Rattle.std.proofs.Common.{refl, subst}
use Rattle.call_inputs.specs.Readings.{HasRead, lacks, stopped, stops, took}
use Rattle.call_inputs.specs.Steps.{bytes}
use Rattle.call_reports.specs.AnswerViews.{seen}
use Rattle.cov_expr.specs.declared.limits.TheConstants.{MOST_BYTES}
use Rattle.explain.specs.FileCalls.{FollowsProgram, out_of_memory}
use Rattle.explain.specs.Inside.Told.{IsLeft, outcome_of}
use Rattle.explain.proofs.LevelLaws.{behind_file, unread_follows}
use Rattle.explain.proofs.level_files.tell_levels.Goals as goal

pub returns-in-Ok : goal.returns-in-Ok
returns-in-Ok g c =
    let shelved = g.S.Shelf.shelved in
    let left = IsLeft (shelved c.tell_program.new.shelf) (outcome_of c.tell_program.new.text c.tell_program.result) in
    let follows = FollowsProgram left c.args.name.now c.args.over.now c.args.text.now in
    behind_file (λ shelf end. follows shelf end) (shelved c.args.shelf.now) (shelved c.fetch.new.shelf) c.args.name.now (took c.in-Ok.bytes) c.in-Ok.ensures.read
    (subst (λ b. follows (shelved c.fetch.new.shelf) (took b)) c.as_slice.ensures c.tell_program.ensures)

pub returns-in-Err-Answer : goal.returns-in-Err-Answer
returns-in-Err-Answer g c =
    let shelved = g.S.Shelf.shelved in
    let last = shelved c.fetch.new.shelf in
    let left = IsLeft last (outcome_of c.tell_unread.new.text c.tell_unread.result) in
    behind_file (λ shelf end. FollowsProgram left c.args.name.now c.args.over.now c.args.text.now shelf end) (shelved c.args.shelf.now) last c.args.name.now
    (stops (seen c.in-Err-Answer.answer))
    (subst (λ why. HasRead (shelved c.args.shelf.now) last (bytes c.args.name.now MOST_BYTES) (stopped why)) c.in-Err-Answer.field-0-is
    c.in-Err-Answer.ensures.read)
    (unread_follows c.args.name.now c.args.over.now c.args.text.now c.tell_unread.new.text last (seen c.in-Err-Answer.answer) c.tell_unread.result
    c.tell_unread.ensures)

pub returns-in-Err-NoMemory : goal.returns-in-Err-NoMemory
returns-in-Err-NoMemory g c =
    let shelved = g.S.Shelf.shelved in
    let last = shelved c.fetch.new.shelf in
    behind_file (λ shelf end. FollowsProgram (IsLeft last out_of_memory) c.args.name.now c.args.over.now c.args.text.now shelf end) (shelved c.args.shelf.now) last
    c.args.name.now lacks
    (subst (λ why. HasRead (shelved c.args.shelf.now) last (bytes c.args.name.now MOST_BYTES) (stopped why)) c.in-Err-NoMemory.field-0-is
    c.in-Err-NoMemory.ensures.read)
    (refl, refl)
