use Rattle.std.proofs.Common.{◌≡◌, ◌++◌, drop}
use Rattle.explain.specs.WarningSentences.{warning_lines}
use Rattle.explain.proofs.warnings.add_warning_lines.Given as goal

-- the lines so far, and those of the rest, are all of them
abbrev pub invariant-loop-warning : goal.invariant-loop-warning
invariant-loop-warning l =
    l.text ++ warning_lines l.name l.bytes (drop l.warning-index l.found) ≡ l.fn.text ++ warning_lines l.name l.bytes l.found
