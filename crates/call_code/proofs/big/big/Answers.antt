use Rattle.std.proofs.Common.{◌≡◌, ℕ, List, Ok, Err, Result, sym, subst, rules, arith}
use Rattle.std.specs.Prelude.{codes}
use Rattle.std.proofs.lemmas.List.{length-map}
use Rattle.cov_ast.specs.Syntax.{Parsed}
use Rattle.cov_ast.specs.View as view
use Rattle.cov_gen.specs.Big as gen
use Rattle.cov_io.specs.Shelves.{Shelved}
use Rattle.call_code.specs.BigReplies.{SumsUp, big_plan, made, starts_with_secrets}
use Rattle.call_code.specs.Codes.{accepted_pair}
use Rattle.call_inputs.proofs.PlanLaws.{carried_not, carried_on, carried_tries, read_on, text_read}
use Rattle.replay_inputs.specs.Inputs.{PairInput}
use Rattle.call_inputs.specs.Plans.{CarriesOut, GetsAt, does}
use Rattle.call_inputs.specs.Programs.{IsShownFault, SpellsProgram}
use Rattle.call_inputs.specs.Readings.{Reading, then_read}
use Rattle.call_inputs.specs.Rejections.{UnlessRejected}
use Rattle.replay_inputs.specs.Steps.{entries}
use Rattle.call_judge.specs.Check.{rejection}
use Rattle.call_judge.specs.Starts.{unfit_starts}
use Rattle.call_reports.specs.AnswerViews.{Gets}
use Rattle.call_reports.specs.declared.answers.Answer.{Answer}
use Rattle.call_reports.specs.declared.answers.Stop.{Stop}
use Rattle.call_code.proofs.big.big.Goals as goal

-- what follows of the entries, and of the program
abbrev tried : Parsed → List ℕ → Reading PairInput
tried p k = accepted_pair (starts_with_secrets p k)

abbrev with_program : (schedule : List ℕ) → Parsed → Reading PairInput
with_program schedule p = then_read (entries p schedule) (tried p)

pub returns-in_err-parsed : goal.returns-in_err-parsed
returns-in_err-parsed g c =
    let s0 = g.S.Shelf.shelved c.args.shelf.now in
    let stop = c.in_err-parsed.field-0.0 in
    let same : c.from_residual.result ≡ Err c.in_err-parsed.field-0.0 = search rules in
    subst (CarriesOut s0 s0 (big_plan c.args.rounds c.args.schedule.now)) (sym same)
    (carried_not (made c.args.rounds) (with_program c.args.schedule.now) (SumsUp c.args.rounds) s0 s0 stop
    (text_read SpellsProgram IsShownFault view.parsed (codes "big") (gen.big c.args.rounds) s0 (Err stop) c.in_err-parsed.ensures.read))

-- of a program that was read and of its entries
read_both : (rounds : ℕ) (schedule : List ℕ) (s0 s1 : Shelved) (p : Parsed) (r : Result Answer Stop) → SpellsProgram (gen.big rounds) p
    → CarriesOut s0 s1 (does (with_program schedule p) (SumsUp rounds)) r → CarriesOut s0 s1 (big_plan rounds schedule) r
read_both rounds schedule s0 s1 p r spelled rest =
    read_on (made rounds) (with_program schedule) (λ shelf end. (shelf ≡ s1) × GetsAt (SumsUp rounds) end r) s0 s0 p
    (text_read SpellsProgram IsShownFault (λ (q : Parsed). q) (codes "big") (gen.big rounds) s0 (Ok p) spelled) rest

pub returns-in_err-entries : goal.returns-in_err-entries
returns-in_err-entries g c =
    let shelved = g.S.Shelf.shelved in
    let p = view.parsed c.in_ok-parsed.parsed in
    let s0 = shelved c.args.shelf.now in
    let s1 = shelved c.read_entries.new.shelf in
    let stop = c.in_err-entries.field-0.0 in
    let same : c.from_residual-in_err-entries.result ≡ Err c.in_err-entries.field-0.0 = search rules in
    subst (CarriesOut s0 s1 (big_plan c.args.rounds c.args.schedule.now)) (sym same)
    (read_both c.args.rounds c.args.schedule.now s0 s1 p (Err stop) c.in_ok-parsed.ensures.read
    (carried_not (entries p c.args.schedule.now) (tried p) (SumsUp c.args.rounds) s0 s1 stop c.in_err-entries.ensures.read))

pub returns : goal.returns
returns g c =
    let shelved = g.S.Shelf.shelved in
    let p = view.parsed c.in_ok-parsed.parsed in
    let k = c.in_ok-entries.entries in
    let s0 = shelved c.args.shelf.now in
    let s1 = shelved c.read_entries.new.shelf in
    let i = starts_with_secrets p k in
    let r = c.sum_up_text.result in
    read_both c.args.rounds c.args.schedule.now s0 s1 p r c.in_ok-parsed.ensures.read
    (carried_on (entries p c.args.schedule.now) (tried p) (SumsUp c.args.rounds) s0 s1 k r c.in_ok-entries.ensures.read
    (carried_tries (SumsUp c.args.rounds) i s1 r (rejection p) (unfit_starts p i.left i.right)
    (subst (λ t. Gets (UnlessRejected (rejection p) (UnlessRejected (unfit_starts p i.left i.right) (SumsUp c.args.rounds (starts_with_secrets p t)))) r)
    c.as_slice.ensures c.sum_up_text.ensures)))

pub read_entries-requires : goal.read_entries-requires
read_entries-requires g c =
    let ready = c.in_ok-parsed.ensures.ready in
    omega (arith, length-map c.in_ok-parsed.parsed.threads view.thread, ready.limits.declared_threads)
