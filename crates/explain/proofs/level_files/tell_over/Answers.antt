use Rattle.std.proofs.Common.{refl, inr, subst}
use Rattle.call_inputs.specs.Readings.{HasRead, lacks, stopped, stops, took}
use Rattle.call_inputs.specs.Steps.{bytes}
use Rattle.call_reports.specs.AnswerViews.{seen}
use Rattle.cov_ast.specs.View as view
use Rattle.cov_expr.specs.declared.limits.TheConstants.{MOST_BYTES}
use Rattle.explain.specs.FileCalls.{FollowsOver, out_of_memory}
use Rattle.explain.specs.Inside.Told.{AddsOver, IsLeft, outcome_of}
use Rattle.explain.proofs.LevelLaws.{behind_file, over_follows, unread_over}
use Rattle.explain.proofs.level_files.tell_over.Goals as goal

pub returns-in-Ok : goal.returns-in-Ok
returns-in-Ok g c =
    let shelved = g.S.Shelf.shelved in
    let name = c.args.name.now in
    let over = c.args.over.now in
    let these = c.args.bytes.now in
    let p = view.parsed c.args.parsed in
    let last = shelved c.fetch.new.shelf in
    let text = c.tell_given.new.text in
    let left = IsLeft last (outcome_of text c.tell_given.result) in
    behind_file (λ shelf end. FollowsOver left name these p over c.args.text.now shelf end) (shelved c.args.shelf.now) last over (took c.in-Ok.given)
    c.in-Ok.ensures.read
    (over_follows name over c.args.text.now text last these p (took c.in-Ok.given) c.tell_given.result
    (subst (λ b. AddsOver name these p over (took b) c.args.text.now text c.tell_given.result) c.as_slice.ensures c.tell_given.ensures))

pub returns-in-Err-Answer : goal.returns-in-Err-Answer
returns-in-Err-Answer g c =
    let shelved = g.S.Shelf.shelved in
    let name = c.args.name.now in
    let over = c.args.over.now in
    let these = c.args.bytes.now in
    let p = view.parsed c.args.parsed in
    let last = shelved c.fetch.new.shelf in
    let text = c.tell_unread.new.text in
    let reply = seen c.in-Err-Answer.answer in
    let left = IsLeft last (outcome_of text c.tell_unread.result) in
    behind_file (λ shelf end. FollowsOver left name these p over c.args.text.now shelf end) (shelved c.args.shelf.now) last over (stops reply)
    (subst (λ why. HasRead (shelved c.args.shelf.now) last (bytes over MOST_BYTES) (stopped why)) c.in-Err-Answer.field-0-is c.in-Err-Answer.ensures.read)
    (over_follows name over c.args.text.now text last these p (stops reply) c.tell_unread.result
    (unread_over name these p over c.args.text.now text reply c.tell_unread.result c.tell_unread.ensures))

pub returns : goal.returns
returns g c =
    let shelved = g.S.Shelf.shelved in
    let over = c.args.over.now in
    let last = shelved c.fetch.new.shelf in
    behind_file (λ shelf end. FollowsOver (IsLeft last out_of_memory) c.args.name.now c.args.bytes.now (view.parsed c.args.parsed) over c.args.text.now shelf end)
    (shelved c.args.shelf.now) last over lacks
    (subst (λ why. HasRead (shelved c.args.shelf.now) last (bytes over MOST_BYTES) (stopped why)) c.in-Err-NoMemory.field-0-is c.in-Err-NoMemory.ensures.read)
    (inr (refl, refl))
