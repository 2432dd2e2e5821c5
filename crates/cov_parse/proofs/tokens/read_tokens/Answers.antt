use Rattle.std.proofs.Common.{◌≡◌, ◌∙◌, Err, length, ap, sym, subst, rules, arith}
use Rattle.cov_expr.proofs.Lists.{refilled_whole}
use Rattle.cov_text.specs.Text.{words_of}
use Rattle.cov_text.specs.Versioned.{versioned}
use Rattle.cov_parse.specs.ReadTokens.{AreRead}
use Rattle.cov_lex.proofs.Lexical.{fault_back}
use Rattle.cov_text.proofs.TextLaws.{lexes_so}
use Rattle.cov_parse.proofs.tokens.read_tokens.Goals as goal

pub returns-in_err-tokens : goal.returns-in_err-tokens
returns-in_err-tokens c =
    let same : c.from_residual.result ≡ Err c.in_err-tokens.field-0.0 = search rules in
    subst (AreRead c.args.bytes.now) (sym same) (fault_back c.args.bytes.now c.in_err-tokens.field-0.0 c.in_err-tokens.ensures.reading)

pub returns : goal.returns
unfolding words_of
returns c = (
  lexes_so c.args.bytes.now c.in_ok-tokens.ensures.tokens.read c.in_ok-tokens.ensures.tokens.lexes,
  c.in_ok-names.ensures.names,
  refilled_whole c.number_names.new.tokens c.fit_version.new.tokens (omega (arith, c.fit_version.auto.tokens, ap length c.as_mut_slice.ensures.value))
      ∙ c.fit_version.ensures
      ∙ ap versioned (c.as_mut_slice.ensures.value ∙ c.in_ok-names.ensures.tokens),
)
