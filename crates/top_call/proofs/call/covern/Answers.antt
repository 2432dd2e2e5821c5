use Rattle.std.proofs.Common.{◌≡◌, ◌⊎◌, IfSome, IsTrue, map, string_bytes, subst}
use Rattle.call_inputs.specs.Plans.{IsMet, PerformsAsking}
use Rattle.call_inputs.proofs.PlanLaws.{performs_asking}
use Rattle.call_reports.specs.Ends.{Ends}
use Rattle.call_reports.specs.declared.answers.Status.TheVariants as s
use Rattle.cov_io.specs.Counters.{Rose}
use Rattle.thread_swap.specs.RulesSay.{by_rules}
use Rattle.top_call.specs.Outcome.{IsSuccess, Outcome, plan_for}
use Rattle.top_call.proofs.call.covern.Goals as goal

-- Nothing was judged before the call: the rules are what `covern_with` is told that they are.
pub returns-clause-does : goal.returns-clause-does
returns-clause-does g c =
    let shelved = g.S.Shelf.shelved in
    let sunk = g.K.Sink.sunk in
    let words = map string_bytes c.args.words.now in
    let before = shelved c.args.shelf.now in
    let after = shelved c.covern_with.new.shelf in
    let old = sunk c.args.sink.now in
    let new = sunk c.covern_with.new.sink in
    let asked = c.new-judge.result.judged in
    let told = c.covern_with.new.judge.judged in
    performs_asking (plan_for (by_rules 0) words) before after old new asked told c.covern_with.result
    (subst (λ n. PerformsAsking before after old new asked told (plan_for (by_rules n) words) c.covern_with.result) c.new-judge.ensures c.covern_with.ensures.does)

pub returns-clause-exact : goal.returns-clause-exact
returns-clause-exact g c =
    let shelved = g.S.Shelf.shelved in
    let sunk = g.K.Sink.sunk in
    subst (λ n. IsTrue (shelved c.args.shelf.now).sure → IfSome (shelved c.args.shelf.now).told (λ files.
    Ends (Outcome (by_rules n) files (map string_bytes c.args.words.now)) (sunk c.args.sink.now) (sunk c.covern_with.new.sink) c.covern_with.result))
    c.new-judge.ensures c.covern_with.ensures.exact

pub returns-clause-quiet : goal.returns-clause-quiet
returns-clause-quiet g c =
    let shelved = g.S.Shelf.shelved in
    let sunk = g.K.Sink.sunk in
    subst (λ n. (Rose (shelved c.args.shelf.now).faults (shelved c.covern_with.new.shelf).faults → ⊥) → IfSome (shelved c.args.shelf.now).told (λ files.
    Ends (Outcome (by_rules n) files (map string_bytes c.args.words.now)) (sunk c.args.sink.now) (sunk c.covern_with.new.sink) c.covern_with.result))
    c.new-judge.ensures c.covern_with.ensures.quiet

pub returns-clause-complete : goal.returns-clause-complete
returns-clause-complete g c =
    let shelved = g.S.Shelf.shelved in
    let sunk = g.K.Sink.sunk in
    let words = map string_bytes c.args.words.now in
    subst (λ n. (Rose (shelved c.args.shelf.now).faults (shelved c.covern_with.new.shelf).faults → ⊥)
    → (Rose (sunk c.args.sink.now).faults (sunk c.covern_with.new.sink).faults → ⊥)
    → IfSome (shelved c.args.shelf.now).told (λ files. IsMet files (plan_for (by_rules n) words)
    → IsSuccess words c.covern_with.result ⊎ (c.covern_with.result ≡ s.NoMemory)))
    c.new-judge.ensures c.covern_with.ensures.complete
