-- What holds of a right side that the next token decides: of programs, of expressions and of every rule.
use Rattle.std.specs.Prelude.{◌≡◌, List, [], ◌⊎◌}
use Rattle.cov_grammar.specs.declared.token.Token.{Token}
use Rattle.cov_grammar.specs.Shapes.{Shape}
use Rattle.cov_grammar.specs.Spells.{Is, FirstWrong}
use Rattle.cov_grammar.specs.Reading.{all_of, got, stopped, spent}

-- Reading says of all tokens what the grammar says:
-- what it gives, they spell; what they spell, it gives; where it stops, it is in front of the first wrong token; and it
-- has turns enough.
pub record IsReadExactly {A : Type 0} (a : Shape A) : Type 0 where
  pub sound : (ts : List Token) (v : A) → all_of a ts ≡ got v [] → Is a v ts
  pub complete : (ts : List Token) (v : A) → Is a v ts → all_of a ts ≡ got v []
  pub faults : (ts bad : List Token) → all_of a ts ≡ stopped bad → FirstWrong a ts bad
  pub ends : (ts : List Token) → all_of a ts ≡ spent → ⊥

-- The grammar says one thing of all tokens:
-- they spell a value or have a first wrong token; never both; one value at most (the grammar is unambiguous); and one first
-- wrong token at most.
pub record IsDecided {A : Type 0} (a : Shape A) : Type 0 where
  pub value_or_fault : (ts : List Token) → ((v : A) × Is a v ts) ⊎ ((bad : List Token) × FirstWrong a ts bad)
  pub not_both : (ts bad : List Token) (v : A) → Is a v ts → FirstWrong a ts bad → ⊥
  pub one_value : (ts : List Token) (v w : A) → Is a v ts → Is a w ts → v ≡ w
  pub one_fault : (ts bad other : List Token) → FirstWrong a ts bad → FirstWrong a ts other → bad ≡ other
