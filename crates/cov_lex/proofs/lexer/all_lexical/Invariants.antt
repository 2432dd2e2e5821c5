use Rattle.std.proofs.Common.{◌≡◌, ◌++◌, map, drop}
use Rattle.cov_lex.specs.Inside.{lexical}
use Rattle.cov_lex.proofs.lexer.all_lexical.Given as goal

-- the tokens so far, and those of what is left, are all of them
abbrev pub invariant-loop-token : goal.invariant-loop-token
invariant-loop-token l = l.list ++ map (lexical l.bytes) (drop l.token-index l.tokens) ≡ map (lexical l.bytes) l.tokens
