-- Texts of levels are decided by the next token, and their lists are of items that can be repeated: by computation.
use Rattle.std.proofs.Common.{◌≡◌, List, [], ◌∷◌, true, refl, sym, ap, ◌∙◌}
use Rattle.cov_expr.specs.declared.kind.Kind.TheVariants as k
use Rattle.cov_grammar.specs.declared.token.Token.{Token}
use Rattle.cov_grammar.specs.FirstKinds.{first_kinds, more_of}
use Rattle.cov_grammar.specs.Shapes.{many}
use Rattle.cov_grammar.specs.LookAhead.{kind_is, fine}
use Rattle.cov_grammar.specs.Grammar.{◌▸◌, named}
use Rattle.cov_grammar.specs.Reading.{Reading, got, stopped, spent, ◌>>=◌, reading}
use Rattle.cov_grammar.specs.ReadingLaws.{IsDecided}
use Rattle.cov_grammar.proofs.Exactness.{decided}
use Rattle.cov_grammar.proofs.Repeats.{Item, pushed}
use Rattle.level_text.specs.TextTrees.{Level}
use Rattle.level_text.specs.TextGrammar.{level, listing, levels, level_text}

pub comma_named : Item (k.Comma ▸ named) (k.Comma ∷ [])
unfolding kind_is
comma_named = record { fine = refl; full = refl; first = refl }

pub level_item : Item level (k.Level ∷ [])
unfolding kind_is level
level_item = record { fine = refl; full = refl; first = refl }

pub listing_item : Item listing (k.Var ∷ [])
unfolding kind_is listing
listing_item = record { fine = refl; full = refl; first = refl }

pub fine_text : fine first_kinds more_of level_text ≡ true
unfolding kind_is level listing levels level_text
fine_text = refl

-- The grammar says one thing of all tokens of a text.
pub text_decided : IsDecided level_text
text_decided = decided level_text fine_text

-- the first level of a list
pair_is : (v : Level) (o : Reading (List Level)) → ((o >>= λ w last. got (v, w) last) >>= λ (x : Level × List Level) last. got (x.0 ∷ x.1) last) ≡ pushed (v ∷ []) o
pair_is v (got ys ts) = refl
pair_is v (stopped ts) = refl
pair_is v spent = refl

pub levels_begin : (v : Level) (ts rest : List Token) → reading level ts ≡ got v rest → pushed (v ∷ []) (reading (many level) rest) ≡ reading levels ts
unfolding levels
levels_begin v ts rest h =
    sym (ap (λ o. (o >>= λ v us. (reading (many level) us >>= λ w last. got (v, w) last)) >>= λ (x : Level × List Level) last. got (x.0 ∷ x.1) last) h ∙ pair_is v (reading (many level) rest))

pub levels_stop : (ts rest : List Token) → reading level ts ≡ stopped rest → reading levels ts ≡ stopped rest
unfolding levels
levels_stop ts rest h = ap (λ o. (o >>= λ v us. (reading (many level) us >>= λ w last. got (v, w) last)) >>= λ (x : Level × List Level) last. got (x.0 ∷ x.1) last) h
