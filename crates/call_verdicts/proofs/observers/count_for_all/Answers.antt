use Rattle.std.proofs.Common.{◌≡◌, [], get_or, map, Err, ap₂, subst}
use Rattle.std.proofs.lemmas.List.{get_or_read}
use Rattle.cov_ast.specs.View as view
use Rattle.call_judge.specs.Check.{name_in}
use Rattle.call_reports.specs.Replies.{refused_for}
use Rattle.level_text.specs.Views as level_view
use Rattle.levels.proofs.FirstRefused.{first_is_refused, none_refused_for}
use Rattle.levels.specs.Accepted.{DecidesForAll, IsFirstRefused}
use Rattle.call_verdicts.proofs.observers.count_for_all.Goals as goal

pub returns-in-Ok : goal.returns-in-Ok
returns-in-Ok c =
    let l = level_view.levels c.args.l.now in
    let p = view.program c.args.p.now in
    (none_refused_for l p c.in-Ok.ensures.answer.0, c.in-Ok.ensures.answer.1 0 c.requires.levels.some)

pub returns-in-Err-Refused : goal.returns-in-Err-Refused
returns-in-Err-Refused c =
    let l = level_view.levels c.args.l.now in
    let p = view.program c.args.p.now in
    let o = c.in-Err-Refused.observer in
    let refusal = c.in-Err-Refused.refusal in
    let first : IsFirstRefused l p o refusal = subst (λ fault. DecidesForAll l p (Err fault)) c.in-Err-Refused.field-0-is c.in-Err-Refused.ensures.answer in
    let name = c.index-as_slice-observer.result in
    let level : name ≡ get_or c.args.l.now.names o [] =
    get_or_read c.args.l.now.names o name first.level (subst (λ names. name ≡ get_or names o name) c.as_slice.ensures c.index-as_slice-observer.is) [] in
    let thread : c.thread_name-thread.result ≡ name_in (map view.thread c.args.p.now.threads) refusal.thread =
    subst (λ threads. c.thread_name-thread.result ≡ name_in (map view.thread threads) refusal.thread) c.as_slice-in-Err-Refused.ensures c.thread_name-thread.ensures in
    ((o, refusal), first_is_refused l p o refusal first, ap₂ (λ n t. refused_for n refusal t) level thread)
