use Rattle.std.proofs.Common.{◌≡◌, length, Err, sym, subst, ◌∙◌, rules}
use Rattle.std.proofs.lemmas.List.{length-map}
use Rattle.cov_ast.specs.View as view
use Rattle.call_reports.specs.AnswerViews.{Gets}
use Rattle.call_reports.specs.Replies.{ran}
use Rattle.level_text.specs.Lattice.{AreLevels}
use Rattle.level_text.specs.Views as level_view
use Rattle.call_verdicts.specs.Inside.{JudgesForAll}
use Rattle.call_verdicts.specs.Levels.{LevelsInput}
use Rattle.call_verdicts.proofs.LevelsLaws.{accepted_for_each, as_many_vars, line_told, refused_for_all, unnamed_for_all}
use Rattle.call_verdicts.proofs.observers.judge_shown.Goals as goal

pub returns-in_err-program : goal.returns-in_err-program
returns-in_err-program c =
    let i : LevelsInput = record { program = view.parsed c.args.parsed; levels = level_view.levels c.args.l.now } in
    let same : c.from_residual.result ≡ Err c.in_err-program.field-0.0 = search rules in
    subst (Gets (JudgesForAll i)) (sym same) (unnamed_for_all i c.in_err-program.field-0.0 c.in_err-program.ensures.unnamed)

pub count_for_all-requires-clause-levels : goal.count_for_all-requires-clause-levels
count_for_all-requires-clause-levels c =
    let p = view.parsed c.args.parsed in
    let program = c.in_ok-program.program in
    let as_many : length c.args.parsed.vars ≡ length program.vars =
    sym (length-map c.args.parsed.vars view.var) ∙ sym (as_many_vars p (view.program program) c.in_ok-program.ensures.named.is) ∙ length-map program.vars view.var in
    subst (λ n. AreLevels n (level_view.levels c.args.l.now)) as_many c.requires.levels

pub returns-in_err-count : goal.returns-in_err-count
returns-in_err-count c =
    let i : LevelsInput = record { program = view.parsed c.args.parsed; levels = level_view.levels c.args.l.now } in
    let program = view.program c.in_ok-program.program in
    let named = c.in_ok-program.ensures in
    let same : c.from_residual-in_err-count.result ≡ Err c.in_err-count.field-0.0 = search rules in
    subst (Gets (JudgesForAll i)) (sym same) (refused_for_all i named.unnamed program named.named.is c.in_err-count.field-0.0 c.in_err-count.ensures)

pub returns : goal.returns
returns c =
    let i : LevelsInput = record { program = view.parsed c.args.parsed; levels = level_view.levels c.args.l.now } in
    let program = view.program c.in_ok-program.program in
    let named = c.in_ok-program.ensures in
    accepted_for_each i named.unnamed program named.named.is c.in_ok-count.ensures.0 (ran c.in_ok-line.line)
    (line_told i program named.named.is c.len.result c.len-2.result c.in_ok-count.count c.in_ok-line.line c.len.ensures
    (c.len-2.ensures ∙ sym (length-map c.in_ok-program.program.threads view.thread)) c.in_ok-count.ensures.1 c.in_ok-line.ensures)
