use Rattle.std.proofs.Common.{◌≡◌, ◌∙◌, Ok, Err, ap, sym, subst, rules}
use Rattle.cov_lex.specs.Classified.{all_classified, classified_of}
use Rattle.cov_lex.specs.Lexing.{Gives, tokens_from, tokens_of}
use Rattle.cov_lex.proofs.Lexical.{are_classified, fault_gives}
use Rattle.cov_lex.proofs.Steps.{gap_fits, gap_read, part_fits, part_read, fault_read, end_read}
use Rattle.cov_lex.proofs.lexer.tokens.Goals as goal

pub loop-at-preserved-in-Gap : goal.loop-at-preserved-in-Gap
loop-at-preserved-in-Gap c =
    let e = ap Ok (sym c.in-Gap.is) ∙ c.in_ok-len.ensures.piece in record {
      same = gap_read c.loop-at.at c.args.bytes.now c.loop-at-test.true c.loop-at.tokens c.in-Gap.len e ∙ c.loop-at.invariant.same;
      within = gap_fits c.loop-at.at c.args.bytes.now c.loop-at-test.true c.in-Gap.len e;
    }

pub loop-at-preserved : goal.loop-at-preserved
loop-at-preserved c =
    let e = ap Ok (sym c.in-Part.is) ∙ c.in_ok-len.ensures.piece in record {
      same =
          part_read c.loop-at.at c.args.bytes.now c.loop-at-test.true c.loop-at.tokens c.add_token.new.tokens c.in-Part.kind c.in-Part.value c.in-Part.len e c.in_ok-add_token-in-Part.ensures.ok
          ∙ c.loop-at.invariant.same;
      within = part_fits c.loop-at.at c.args.bytes.now c.loop-at-test.true c.in-Part.kind c.in-Part.value c.in-Part.len e;
    }

pub returns-in_err-len-clause-reading : goal.returns-in_err-len-clause-reading
unfolding classified_of tokens_of
returns-in_err-len-clause-reading c =
    let same : c.from_residual.result ≡ Err c.in_err-len.field-0.0 = search rules in
    subst (λ r. Gives r (all_classified c.args.bytes.now (tokens_from 0 0 c.args.bytes.now))) (sym same)
    (fault_gives c.in_err-len.field-0.0 (all_classified c.args.bytes.now (tokens_from 0 0 c.args.bytes.now))
    (sym c.loop-at.invariant.same ∙ fault_read c.loop-at.at c.args.bytes.now c.loop-at-test.true c.loop-at.tokens c.in_err-len.field-0.0 c.in_err-len.ensures.piece))

pub returns-clause-tokens : goal.returns-clause-tokens
unfolding classified_of tokens_of
returns-clause-tokens c = are_classified c.args.bytes.now c.loop-at.tokens (sym c.loop-at.invariant.same ∙ end_read c.loop-at.tokens c.loop-at.at c.args.bytes.now c.loop-at-test.false)
