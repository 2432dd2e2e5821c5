use Rattle.std.proofs.Common.{sym, subst}
use Rattle.std.proofs.lemmas.List.{length-map}
use Rattle.cov_ast.specs.View as view
use Rattle.cov_ast.specs.WellFormed.{IsWellFormed}
use Rattle.level_text.specs.Lattice.{AreLevels}
use Rattle.level_text.specs.Views as level_view
use Rattle.levels.proofs.check.check_shown.Goals as goal

pub check_program-requires : goal.check_program-requires
check_program-requires c =
    let p = c.args.p.now in
    let l = level_view.levels c.args.l.now in
    let levels = subst (λ n. AreLevels n l) (sym (length-map p.vars view.var)) c.requires.levels in
    subst IsWellFormed (sym c.in_ok-made.ensures) (c.shown_is_well_formed.ensures c.args.seen.now l (view.program p) levels c.requires.formed)
