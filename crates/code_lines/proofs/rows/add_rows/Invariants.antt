use Rattle.std.proofs.Common.{◌≡◌, ◌+◌, ◌++◌, drop}
use Rattle.code_lines.specs.CodeLines as spec
use Rattle.code_lines.proofs.rows.add_rows.Given as goal

-- the lines so far, and those that are left, are all of them
abbrev pub invariant-loop-i : goal.invariant-loop-i
invariant-loop-i l = l.text ++ spec.rows l.parts (l.from + l.i) (drop l.i l.lines) ≡ l.fn.text ++ spec.rows l.parts l.from l.lines
