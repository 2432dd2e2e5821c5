-- What the grammar spells, and which token of a text is the first wrong one.
--
-- Nothing here speaks of a reader: a token is wrong where no text of the language begins with the tokens up to it, whatever
-- follows. A reader that stops there has the viable-prefix property.
use Rattle.std.specs.Prelude.{◌≡◌, ℕ, zero, suc, List, [], ◌∷◌, ◌++◌, Some}
use Rattle.cov_grammar.specs.declared.token.Token.{Token}
use Rattle.cov_grammar.specs.Shapes.{Shape, Sense, Spells, head}
use Rattle.cov_grammar.specs.Grammar.{body}

-- what a rule spells, with rules inside one another at most so deep
abbrev pub Within : ℕ → Sense
Within zero r v ts = ⊥
Within (suc d) r v ts = Spells (Within d) (body r) v ts

-- The tokens, all of them, spell the value.
abbrev pub Is : {A : Type 0} → Shape A → A → List Token → Type 0
Is a v ts = (d : ℕ) × Spells (Within d) a v ts

-- Some tokens that begin so spell a value.
abbrev pub GoesOn : {A : Type 0} → Shape A → List Token → Type 0
GoesOn {A} a ts = (v : A) × (rest : List Token) × Is a v (ts ++ rest)

-- The first wrong token of these tokens is the first of `bad`, or, where `bad` is empty, their end:
-- what stands in front of it can go on; with it, or with any other token of its kind, nothing can; and where nothing is
-- left, the tokens spell no value.
pub record FirstWrong {A : Type 0} (a : Shape A) (ts bad : List Token) : Type 0 where
  pub front : List Token
  pub split : ts ≡ front ++ bad
  pub goes_on : GoesOn a front
  pub next : (t : Token) (rest : List Token) → head bad ≡ Some t.kind → GoesOn a (front ++ t ∷ rest) → ⊥
  pub none : bad ≡ [] → (v : A) → Is a v ts → ⊥

-- the place where a fault is shown: of the first token of `bad`, else the end of the text
abbrev pub spot : (end : ℕ) → List Token → ℕ
spot end [] = end
spot end (t ∷ ts) = t.at
