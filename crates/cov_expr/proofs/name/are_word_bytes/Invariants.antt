use Rattle.std.proofs.Common.{◌≡◌, drop}
use Rattle.std.specs.List.{list_all}
use Rattle.cov_expr.specs.Bytes.{is_word}
use Rattle.cov_expr.proofs.name.are_word_bytes.Given as goal

-- the bytes so far are letters, digits and underscores
abbrev pub invariant-loop-byte : goal.invariant-loop-byte
invariant-loop-byte l = list_all is_word (drop l.byte-index l.text) ≡ list_all is_word l.text
