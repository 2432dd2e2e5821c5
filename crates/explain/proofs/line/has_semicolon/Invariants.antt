use Rattle.std.proofs.Common.{◌≡◌, drop}
use Rattle.std.specs.List.{list_any}
use Rattle.explain.specs.ExpectedLines.{is_semicolon}
use Rattle.explain.proofs.line.has_semicolon.Given as goal

-- none so far is one
abbrev pub invariant-loop-next : goal.invariant-loop-next
invariant-loop-next l = list_any is_semicolon (drop l.next-index l.nexts) ≡ list_any is_semicolon l.nexts
