use Rattle.std.proofs.Common.{◌≡◌, ◌++◌, drop, map}
use Rattle.cov_ast.specs.View as program_view
use Rattle.levels.specs.Projection.{marks_of}
use Rattle.level_text.specs.Views as view
use Rattle.levels.proofs.marks.marks.Given as goal

abbrev pub invariant-loop-var : goal.invariant-loop-var
invariant-loop-var l =
    l.marks ++ marks_of l.seen (view.levels l.l) (map program_view.var (drop l.var-index l.vars)) ≡ marks_of l.seen (view.levels l.l) (map program_view.var l.vars)
