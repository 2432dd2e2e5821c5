use Rattle.std.proofs.Common.{◌≡◌, ℕ, List, Result, Err, refl, sym, subst, rules}
use Rattle.cov_ast.specs.Syntax.{Parsed}
use Rattle.cov_ast.specs.View as view
use Rattle.cov_io.specs.Shelves.{Shelved}
use Rattle.level_text.specs.Lattice.{Levels}
use Rattle.level_text.specs.Views as level_view
use Rattle.call_inputs.specs.Plans.{CarriesOut, GetsAt}
use Rattle.call_inputs.specs.Readings.{End, Reading, then_read}
use Rattle.call_inputs.specs.Steps.{program}
use Rattle.call_inputs.proofs.PlanLaws.{carried_not, carried_tries, read_on, read_stopped, stopped_unasked}
use Rattle.call_judge.specs.Check.{name_rejection}
use Rattle.call_reports.specs.declared.answers.Answer.{Answer}
use Rattle.call_reports.specs.declared.answers.Stop.{Stop}
use Rattle.call_verdicts.specs.Levels.{AcceptsForAll, LevelsInput, accepted_for_all, level_rejection, levels_of, levels_plan}
use Rattle.call_verdicts.proofs.observers.levels.Goals as goal

-- what is asked behind a program and levels
abbrev asked : Parsed → Levels → Reading LevelsInput
asked p l = accepted_for_all (record { program = p; levels = l })

-- and what is read behind the program
abbrev behind : (over : List ℕ) → Parsed → Reading LevelsInput
behind over p = then_read (levels_of p over) (asked p)

-- the shelf is left so, with what may be replied
abbrev Left : (after : Shelved) → Result Answer Stop → Shelved → End LevelsInput → Type 0
Left after r shelf end = (shelf ≡ after) × GetsAt AcceptsForAll end r

pub returns-in_err-parsed : goal.returns-in_err-parsed
returns-in_err-parsed g c =
    let shelved = g.S.Shelf.shelved in
    let before = shelved c.args.shelf.now in
    let after = shelved c.read_program.new.shelf in
    let why = c.in_err-parsed.field-0.0 in
    let same : c.from_residual.result ≡ Err why = search rules in
    subst (CarriesOut before after (levels_plan c.args.name.now c.args.over.now)) (sym same)
    (carried_not (program c.args.name.now) (behind c.args.over.now) AcceptsForAll before after why c.in_err-parsed.ensures.read)

pub returns-in_err-l : goal.returns-in_err-l
returns-in_err-l g c =
    let shelved = g.S.Shelf.shelved in
    let before = shelved c.args.shelf.now in
    let between = shelved c.read_program.new.shelf in
    let after = shelved c.fetch_levels.new.shelf in
    let p = view.parsed c.in_ok-parsed.parsed in
    let why = c.in_err-l.field-0.0 in
    let same : c.from_residual-in_err-l.result ≡ Err why = search rules in
    subst (CarriesOut before after (levels_plan c.args.name.now c.args.over.now)) (sym same)
    (read_on (program c.args.name.now) (behind c.args.over.now) (Left after (Err why)) before between p c.in_ok-parsed.ensures.read
    (read_stopped (levels_of p c.args.over.now) (asked p) (Left after (Err why)) between after why c.in_err-l.ensures.read
    (refl, (stopped_unasked AcceptsForAll (λ x. 0) 0 0 why refl).0)))

pub returns : goal.returns
returns g c =
    let shelved = g.S.Shelf.shelved in
    let before = shelved c.args.shelf.now in
    let between = shelved c.read_program.new.shelf in
    let after = shelved c.fetch_levels.new.shelf in
    let p = view.parsed c.in_ok-parsed.parsed in
    let l = level_view.levels c.in_ok-l.l in
    let i : LevelsInput = record { program = p; levels = l } in
    let r = c.judge_shown.result in
    read_on (program c.args.name.now) (behind c.args.over.now) (Left after r) before between p c.in_ok-parsed.ensures.read
    (read_on (levels_of p c.args.over.now) (asked p) (Left after r) between after l c.in_ok-l.ensures.read
    (carried_tries AcceptsForAll i after r (name_rejection p) (level_rejection i) c.judge_shown.ensures))
