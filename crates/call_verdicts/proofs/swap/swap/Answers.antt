use Rattle.std.proofs.Common.{◌≡◌, ℕ, List, Err, refl, sym, subst, rules}
use Rattle.cov_ast.specs.Syntax.{Parsed}
use Rattle.cov_ast.specs.View as view
use Rattle.call_inputs.specs.Plans.{CarriesOutAsking}
use Rattle.call_inputs.specs.Readings.{Reading, then_read}
use Rattle.call_inputs.specs.Steps.{program}
use Rattle.call_inputs.proofs.PlanLaws.{asked_not, asked_on}
use Rattle.call_verdicts.specs.Swap.{SwapInput, Swaps, due_by, fitting, swap_plan}
use Rattle.call_verdicts.proofs.swap.swap.Goals as goal

-- what is read of the threads of a program, and asked
abbrev given : (replacing : List ℕ) → Parsed → Parsed → Reading SwapInput
given replacing p e = fitting replacing (record { program = p; replacing = e })

-- and behind the program
abbrev behind : (replacing : List ℕ) → Parsed → Reading SwapInput
behind replacing p = then_read (program replacing) (given replacing p)

pub returns-in_err-parsed-clause-does : goal.returns-in_err-parsed-clause-does
returns-in_err-parsed-clause-does g c =
    let shelved = g.S.Shelf.shelved in
    let j = g.J.Judge.judging c.args.judge.now in
    let before = shelved c.args.shelf.now in
    let after = shelved c.read_program.new.shelf in
    let same : c.from_residual.result ≡ Err c.in_err-parsed.field-0.0 = search rules in
    subst (CarriesOutAsking before after j.judged j.judged (swap_plan j c.args.name.now c.args.replacing.now)) (sym same)
    (asked_not (program c.args.name.now) (behind c.args.replacing.now) (Swaps j) (due_by j) before after after j.judged j.judged c.in_err-parsed.field-0.0 refl
    c.in_err-parsed.ensures.read)

pub returns-in_err-threads-clause-does : goal.returns-in_err-threads-clause-does
returns-in_err-threads-clause-does g c =
    let shelved = g.S.Shelf.shelved in
    let j = g.J.Judge.judging c.args.judge.now in
    let before = shelved c.args.shelf.now in
    let between = shelved c.read_program.new.shelf in
    let after = shelved c.read_program-2.new.shelf in
    let p = view.parsed c.in_ok-parsed.parsed in
    let same : c.from_residual-in_err-threads.result ≡ Err c.in_err-threads.field-0.0 = search rules in
    subst (CarriesOutAsking before after j.judged j.judged (swap_plan j c.args.name.now c.args.replacing.now)) (sym same)
    (asked_on (program c.args.name.now) (behind c.args.replacing.now) (Swaps j) (due_by j) before between after j.judged j.judged p (Err c.in_err-threads.field-0.0)
    c.in_ok-parsed.ensures.read
    (asked_not (program c.args.replacing.now) (given c.args.replacing.now p) (Swaps j) (due_by j) between after after j.judged j.judged c.in_err-threads.field-0.0 refl
    c.in_err-threads.ensures.read))

pub returns-clause-does : goal.returns-clause-does
returns-clause-does g c =
    let shelved = g.S.Shelf.shelved in
    let judging = g.J.Judge.judging in
    let j = judging c.args.judge.now in
    let told = (judging c.swap_texts.new.judge).judged in
    let before = shelved c.args.shelf.now in
    let between = shelved c.read_program.new.shelf in
    let after = shelved c.read_program-2.new.shelf in
    let p = view.parsed c.in_ok-parsed.parsed in
    let e = view.parsed c.in_ok-threads.threads in
    asked_on (program c.args.name.now) (behind c.args.replacing.now) (Swaps j) (due_by j) before between after j.judged told p c.swap_texts.result
    c.in_ok-parsed.ensures.read
    (asked_on (program c.args.replacing.now) (given c.args.replacing.now p) (Swaps j) (due_by j) between after after j.judged told e c.swap_texts.result
    c.in_ok-threads.ensures.read (c.swap_texts.ensures.does after))
