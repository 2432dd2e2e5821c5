use Rattle.std.proofs.Common.{◌≡◌, ◌+◌, drop}
use Rattle.std.specs.List.{prefix_len}
use Rattle.cov_expr.specs.Bytes.{is_word}
use Rattle.explain.proofs.words.word_run.Given as goal

-- the bytes so far are of the run
abbrev pub invariant-loop-i : goal.invariant-loop-i
invariant-loop-i l = l.i + prefix_len is_word (drop l.i l.text) ≡ prefix_len is_word l.text
