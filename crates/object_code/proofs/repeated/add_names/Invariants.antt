use Rattle.std.proofs.Common.{ℕ, List}
use Rattle.object_code.specs.Inside.Known.{AreKnown}
use Rattle.object_code.proofs.KnownNames.{IsPassed}
use Rattle.object_code.proofs.repeated.add_names.Given as goal

-- the names so far are known, and none was found
abbrev pub invariant-loop-name : goal.invariant-loop-name
invariant-loop-name l = (before : List (List ℕ)) → AreKnown l.fn.known before → IsPassed l.known before l.names l.name-index
