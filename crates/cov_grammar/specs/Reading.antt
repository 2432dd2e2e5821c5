-- Reading with one token of look-ahead.
--
-- A right side says itself how it is read: where there is a choice, the next token decides, and nothing is taken back.
-- A reading that stops is in front of the token at which it stopped.
use Rattle.std.specs.Prelude.{ℕ, zero, suc, List, [], ◌∷◌, length, if◌then◌else◌, Some, None}
use Rattle.cov_expr.specs.declared.kind.Kind.{Kind}
use Rattle.cov_grammar.specs.declared.token.Token.{Token}
use Rattle.cov_grammar.specs.PlacedTrees.{Rule, Meaning}
use Rattle.cov_grammar.specs.Shapes.{Shape, token, rule, seq, alt, opt, many, act, placed, place, head}
use Rattle.cov_grammar.specs.Grammar.{body}
use Rattle.cov_grammar.specs.LookAhead.{kind_is, starts, firsts}
use Rattle.cov_grammar.specs.FirstKinds.{first_kinds}

-- A value and the tokens behind it; or the tokens from the first wrong one on; or no more turns, which never comes of
-- the grammar.
pub data Reading (A : Type 0) : Type 0 where
  got : A → List Token → Reading A
  stopped : List Token → Reading A
  spent : Reading A

-- one reading, and the next on what it left
infixl 10 ◌>>=◌
abbrev pub ◌>>=◌ : {A B : Type 0} → Reading A → (A → List Token → Reading B) → Reading B
(got v ts) >>= f = f v ts
(stopped ts) >>= f = stopped ts
spent >>= f = spent

abbrev pub Reader : Type 0 → Type 0
Reader A = List Token → Reading A

-- a reader for each rule
abbrev pub Inner : Type 0
Inner = (r : Rule) → Reader (Meaning r)

-- Right sides --------------------------------------------------------------------------------------------------

-- a token of a kind
abbrev pub take_kind : Kind → Reader Token
take_kind k [] = stopped []
take_kind k (t ∷ ts) = if kind_is k t.kind then got t ts else stopped (t ∷ ts)

-- items while the next token is one of these kinds, at most so many
abbrev pub read_many : {A : Type 0} → List Kind → Reader A → ℕ → Reader (List A)
read_many ks next zero ts = got [] ts
read_many ks next (suc n) ts = if starts ks (head ts) then (next ts >>= λ v rest. read_many ks next n rest >>= λ vs last. got (v ∷ vs) last) else got [] ts

-- a right side, where rules begin with the kinds of `ks` and are read by `inner`
abbrev pub read : (ks : Rule → List Kind) → (inner : Inner) → {A : Type 0} → Shape A → Reader A
read ks inner (token k) ts = take_kind k ts
read ks inner (rule r) ts = inner r ts
read ks inner (seq a b) ts = read ks inner a ts >>= λ v rest. read ks inner b rest >>= λ w last. got (v, w) last
read ks inner (alt a b) ts = if starts (firsts ks a) (head ts) then read ks inner a ts else read ks inner b ts
read ks inner (opt a) ts = if starts (firsts ks a) (head ts) then (read ks inner a ts >>= λ v rest. got (Some v) rest) else got None ts
read ks inner (many a) ts = read_many (firsts ks a) (read ks inner a) (length ts) ts
read ks inner (act f a) ts = read ks inner a ts >>= λ v rest. got (f v) rest
read ks inner (placed a) ts = read ks inner a ts >>= λ v rest. got (place ts, v) rest

-- The grammar --------------------------------------------------------------------------------------------------

-- a rule, with rules inside one another in at most so many turns
abbrev pub reads : ℕ → Inner
reads zero r ts = spent
reads (suc d) r ts = read first_kinds (reads d) (body r) ts

-- a rule, in a turn more than there are tokens: each rule inside another stands behind a token, so that is enough
unfoldable pub rule_of : Inner
rule_of r ts = reads (suc (length ts)) r ts

-- a right side, at the front of the tokens
abbrev pub reading : {A : Type 0} → Shape A → Reader A
reading a ts = read first_kinds rule_of a ts

-- a value where nothing is left; else the first token behind it is wrong
abbrev pub ended : {A : Type 0} → A → List Token → Reading A
ended v [] = got v []
ended v (t ∷ ts) = stopped (t ∷ ts)

-- a right side, of all tokens
abbrev pub all_of : {A : Type 0} → Shape A → Reader A
all_of a ts = reading a ts >>= ended
