use Rattle.std.proofs.Common.{sym, subst}
use Rattle.std.proofs.lemmas.List.{length-map}
use Rattle.cov_ast.specs.View as view
use Rattle.cov_ast.specs.WellFormed.{IsWellFormed}
use Rattle.level_text.specs.Lattice.{AreLevels}
use Rattle.level_text.specs.Views as level_view
use Rattle.explain.proofs.observers.add_shown.Goals as goal

pub add_refused_lines-requires-clause-formed : goal.add_refused_lines-requires-clause-formed
add_refused_lines-requires-clause-formed c =
    let p = c.args.program.now in
    let l = level_view.levels c.args.l.now in
    let levels = subst (λ n. AreLevels n l) (sym (length-map p.vars view.var)) c.requires.levels in
    subst IsWellFormed (sym c.in_ok-made.ensures) (c.shown_is_well_formed.ensures c.args.seen.now l (view.program p) levels c.requires.formed)
