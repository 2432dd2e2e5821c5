use Rattle.std.proofs.Common.{◌≡◌, drop}
use Rattle.cov_grammar.specs.LookAhead.{has}
use Rattle.cov_grammar.proofs.reader.is_any.Given as goal

abbrev pub invariant-loop-other : goal.invariant-loop-other
invariant-loop-other l = has (drop l.other-index l.wanted) l.kind ≡ has l.wanted l.kind
