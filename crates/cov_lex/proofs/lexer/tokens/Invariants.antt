use Rattle.std.proofs.Common.{◌≡◌, ◌≤◌, ◌-◌, length, drop}
use Rattle.cov_lex.specs.Classified.{all_classified}
use Rattle.cov_lex.specs.Lexing.{tokens_from}
use Rattle.cov_lex.proofs.Steps.{onto}
use Rattle.cov_lex.proofs.lexer.tokens.Given as goal

-- the tokens so far, and those of the rest, are those of the text
abbrev pub invariant-loop-at : goal.invariant-loop-at
invariant-loop-at l = record {
  same : onto l.tokens (all_classified l.bytes (tokens_from 0 l.at (drop l.at l.bytes))) ≡ all_classified l.bytes (tokens_from 0 0 l.bytes);
  within : l.at ≤ length l.bytes;
}

abbrev pub decreases-loop-at : goal.decreases-loop-at
decreases-loop-at l = length l.bytes - l.at
