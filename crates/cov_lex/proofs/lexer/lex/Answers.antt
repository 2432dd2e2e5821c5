use Rattle.std.proofs.Common.{◌≡◌, ◌∙◌, map, Ok, Err, ap, sym, subst, rules}
use Rattle.cov_lex.specs.Inside.{lexical}
use Rattle.cov_lex.specs.Lexing.{Gives, tokens_of}
use Rattle.cov_lex.proofs.Lexical.{read_back, fault_back}
use Rattle.cov_lex.proofs.Spelled.{are_tokens}
use Rattle.cov_lex.proofs.lexer.lex.Goals as goal

pub returns-in_err-classified-clause-reading : goal.returns-in_err-classified-clause-reading
returns-in_err-classified-clause-reading c =
    let same : c.from_residual.result ≡ Err c.in_err-classified.field-0.0 = search rules in
    subst (λ r. Gives r (tokens_of c.args.bytes.now)) (sym same) (fault_back c.args.bytes.now c.in_err-classified.field-0.0 c.in_err-classified.ensures.reading)

pub returns-clause-reading : goal.returns-clause-reading
returns-clause-reading c =
    let same : c.as_slice.result.now ≡ c.in_ok-classified.classified = search rules in
    read_back c.args.bytes.now c.in_ok-classified.classified c.in_ok-classified.ensures.tokens
    ∙ ap Ok (ap (map (lexical c.args.bytes.now)) (sym same) ∙ sym c.in_ok-all_lexical.ensures)

pub returns-clause-tokens : goal.returns-clause-tokens
returns-clause-tokens c =
    let same : c.as_slice.result.now ≡ c.in_ok-classified.classified = search rules in
    are_tokens c.args.bytes.now c.in_ok-all_lexical.field-0
    (read_back c.args.bytes.now c.in_ok-classified.classified c.in_ok-classified.ensures.tokens
    ∙ ap Ok (ap (map (lexical c.args.bytes.now)) (sym same) ∙ sym c.in_ok-all_lexical.ensures))
