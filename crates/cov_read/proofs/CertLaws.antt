-- A certificate is what its line says.
use Rattle.std.proofs.Common.{◌≡◌, List, [], ◌∷◌, refl}
use Rattle.cov_grammar.proofs.Repeats.{Item}
use Rattle.cov_grammar.specs.declared.token.Token.{Token}
use Rattle.cov_grammar.specs.PlacedTrees as t
use Rattle.cov_expr.specs.declared.kind.Kind.TheVariants as k
use Rattle.cov_grammar.specs.LookAhead.{kind_is}
use Rattle.cov_grammar.specs.Shapes.{rule}
use Rattle.cov_grammar.specs.Grammar.{◌▸◌, whole, body, certificate}
use Rattle.cov_grammar.specs.Reading.{reading}
use Rattle.cov_grammar.proofs.Turns.{rule_is}

pub rule_cert : (ts : List Token) → reading (rule t.cert) ts ≡ reading certificate ts
unfolding body
rule_cert ts = rule_is t.cert ts

-- expressions behind commas
pub comma_item : Item (k.Comma ▸ whole) (k.Comma ∷ [])
unfolding kind_is
comma_item = record { fine = refl; full = refl; first = refl }
