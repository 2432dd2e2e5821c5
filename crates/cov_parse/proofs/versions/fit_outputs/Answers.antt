use Rattle.std.proofs.Common.{◌<◌, ◌∙◌, ap, arith, get_or, length, set}
use Rattle.std.proofs.lemmas.List.{get_or_default}
use Rattle.std.proofs.lemmas.List.Edits.{map_over_more}
use Rattle.cov_expr.specs.declared.kind.Kind.TheVariants as k
use Rattle.cov_grammar.specs.declared.token.Token.{Token}
use Rattle.cov_text.specs.Versioned.{of_first}
use Rattle.cov_parse.proofs.versions.fit_outputs.Goals as goal

-- what an index past the end would give
abbrev blank : Token
blank = record { kind = k.Name; at = 0; end = 0; value = 0 }

pub loop-token-preserved : goal.loop-token-preserved
loop-token-preserved c =
    let here : c.loop-token.token-index < length c.loop-token.tokens = omega (arith, c.loop-token.auto.tokens, c.loop-token-test.true) in
    ap (set c.loop-token.tokens c.loop-token.token-index) c.fit_output.ensures
    ∙ map_over_more of_first c.args.tokens.now c.loop-token.tokens c.loop-token.token-index
    (get_or c.loop-token.tokens c.loop-token.token-index blank) (omega (arith, c.loop-token.auto.tokens, c.loop-token-test.true)) c.loop-token.invariant
    (get_or_default c.loop-token.tokens c.loop-token.token-index blank _ here)
