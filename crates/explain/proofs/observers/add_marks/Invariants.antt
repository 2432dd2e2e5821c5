use Rattle.std.proofs.Common.{◌≡◌, ◌++◌, drop, map}
use Rattle.cov_ast.specs.View as view
use Rattle.explain.specs.LevelTellings.{mark_lines}
use Rattle.explain.proofs.observers.add_marks.Given as goal

-- the lines so far, and those of the rest, are all of them
abbrev pub invariant-loop-var : goal.invariant-loop-var
invariant-loop-var l =
    l.text ++ mark_lines l.seen l.names (map view.var (drop l.var-index l.vars)) ≡ l.fn.text ++ mark_lines l.seen l.names (map view.var l.vars)
