use Rattle.std.proofs.Common.{◌≡◌, Err, sym, subst, rules}
use Rattle.cov_ast.specs.View as view
use Rattle.cov_expr.specs.declared.limits.TheConstants.{MOST_BYTES}
use Rattle.level_text.specs.LevelReads.{GivesLevels}
use Rattle.level_text.specs.Views as level_view
use Rattle.call_inputs.specs.Readings.{HasRead, ended, took}
use Rattle.call_inputs.specs.Steps.{bytes}
use Rattle.call_inputs.proofs.PlanLaws.{file_read, file_stopped}
use Rattle.call_verdicts.specs.Levels.{IsShownLevelFault, levels_of}
use Rattle.call_verdicts.proofs.observers.fetch_levels.Goals as goal

pub returns-in_err-bytes-clause-read : goal.returns-in_err-bytes-clause-read
returns-in_err-bytes-clause-read g c =
    let shelved = g.S.Shelf.shelved in
    let p = view.parsed c.args.parsed.now in
    let same : c.from_residual.result ≡ Err c.in_err-bytes.field-0.0 = search rules in
    subst (λ r. HasRead (shelved c.args.shelf.now) (shelved c.fetch.new.shelf) (levels_of p c.args.name.now) (ended level_view.levels r)) (sym same)
    (file_stopped (λ these l. GivesLevels these p l) (IsShownLevelFault p) c.args.name.now MOST_BYTES (shelved c.args.shelf.now) (shelved c.fetch.new.shelf)
    c.in_err-bytes.field-0.0 c.in_err-bytes.ensures.read)

pub returns-clause-read : goal.returns-clause-read
returns-clause-read g c =
    let shelved = g.S.Shelf.shelved in
    let p = view.parsed c.args.parsed.now in
    file_read (λ these l. GivesLevels these p l) (IsShownLevelFault p) level_view.levels c.args.name.now MOST_BYTES (shelved c.args.shelf.now) (shelved c.fetch.new.shelf)
    c.as_slice.result.now c.given_levels.result
    (subst (λ these. HasRead (shelved c.args.shelf.now) (shelved c.fetch.new.shelf) (bytes c.args.name.now MOST_BYTES) (took these)) (sym c.as_slice.ensures)
    c.in_ok-bytes.ensures.read) c.given_levels.ensures.read
