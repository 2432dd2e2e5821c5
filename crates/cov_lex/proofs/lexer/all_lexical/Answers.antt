use Rattle.cov_lex.proofs.Lexical.{places_inside}
use Rattle.cov_lex.proofs.lexer.all_lexical.Goals as goal

pub lexical-requires : goal.lexical-requires
lexical-requires c = places_inside c.args.bytes.now c.args.tokens.now c.requires c.loop-token.token-index _ c.loop-token-test.true
