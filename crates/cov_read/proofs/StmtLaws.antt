-- Blocks and their statements.
use Rattle.std.proofs.Common.{◌≡◌, List, [], ◌∷◌, refl}
use Rattle.cov_grammar.specs.declared.token.Token.{Token}
use Rattle.cov_expr.specs.declared.kind.Kind.TheVariants as k
use Rattle.cov_grammar.specs.PlacedTrees as t
use Rattle.cov_grammar.specs.LookAhead.{kind_is}
use Rattle.cov_grammar.specs.Shapes.{rule, placed}
use Rattle.cov_grammar.specs.Grammar.{body, proof, proofs, types, state, retype, assigned, branched, looped, statement, braces}
use Rattle.cov_grammar.specs.Reading.{reading}
use Rattle.cov_grammar.proofs.Repeats.{Item}
use Rattle.cov_grammar.proofs.Turns.{rule_is}
use Rattle.cov_read.specs.declared.stmts.TheConstants.{FIRST_OF_STATEMENTS}

pub rule_block : (ts : List Token) → reading (rule t.block) ts ≡ reading braces ts
unfolding body
rule_block ts = rule_is t.block ts

pub statement_item : Item (placed statement) FIRST_OF_STATEMENTS
unfolding kind_is proof proofs types state retype assigned branched looped statement
statement_item = record { fine = refl; full = refl; first = refl }

pub retype_item : Item retype (k.Retype ∷ [])
unfolding kind_is retype
retype_item = record { fine = refl; full = refl; first = refl }
