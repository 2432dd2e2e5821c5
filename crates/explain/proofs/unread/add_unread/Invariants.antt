use Rattle.std.proofs.Common.{◌≡◌, drop}
use Rattle.explain.specs.UnreadVariables.{with_unread}
use Rattle.explain.proofs.unread.add_unread.Given as goal

-- what was found so far, and with the rest, is what is found of all
abbrev pub invariant-loop-x : goal.invariant-loop-x
invariant-loop-x l = with_unread l.read l.stored l.found (drop l.x-index l.xs) ≡ with_unread l.read l.stored l.fn.found l.xs
