use Rattle.cov_text.proofs.NameNumbers.{Numbering}
use Rattle.cov_parse.proofs.tokens.number_names.Given as goal

-- the names so far have their numbers
abbrev pub invariant-loop-i : goal.invariant-loop-i
invariant-loop-i l = Numbering l.bytes l.names l.tokens l.i
