use Rattle.std.proofs.Common.{drop, map}
use Rattle.cov_ast.specs.View as program_view
use Rattle.levels.specs.Inside.Alike.{HaveMarksAlike}
use Rattle.levels.proofs.alike.have_marks_alike.Given as goal

-- where what is left is alike, all is
abbrev pub invariant-loop-var : goal.invariant-loop-var
invariant-loop-var l =
    HaveMarksAlike l.one l.two l.names (map program_view.var (drop l.var-index l.vars)) → HaveMarksAlike l.one l.two l.names (map program_view.var l.vars)
