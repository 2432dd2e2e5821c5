use Rattle.std.proofs.Common.{◌≡◌, ◌+◌, drop}
use Rattle.std.specs.List.{prefix_len}
use Rattle.cov_lex.specs.Inside.{is_in}
use Rattle.cov_lex.proofs.piece.run.Given as goal

abbrev pub invariant-loop-i : goal.invariant-loop-i
invariant-loop-i l = l.i + prefix_len (is_in l.class) (drop l.i l.bytes) ≡ prefix_len (is_in l.class) l.bytes
