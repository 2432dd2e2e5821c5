-- What a reader of a program answers, and what it leaves, decides whether tokens are a front or a whole program.
use Rattle.std.proofs.Common.{◌≡◌, List, [], ◌∷◌, Bool, true, false, IsTrue, ◌↔◌, refl, sym, ap, ◌∙◌}
use Rattle.cov_grammar.specs.declared.token.Token.{Token}
use Rattle.cov_grammar.specs.Grammar.{program}
use Rattle.cov_grammar.specs.PlacedTrees.{Program}
use Rattle.cov_grammar.specs.Reading.{got, stopped, reading}
use Rattle.explain.specs.ExpectedTokens.{takes_all, gives_all, is_front, is_whole}

-- whether no token is left
is_none : List Token → Bool
is_none [] = true
is_none (t ∷ ts) = false

none_left : (b : Bool) (left : List Token) → IsTrue b ↔ (left ≡ []) → b ≡ is_none left
unfolding is_none
none_left b [] h = h.1 refl
none_left true (t ∷ ts) h = let no : t ∷ ts ≡ [] = h.0 refl in cc
none_left false (t ∷ ts) h = refl

got_all : (p : Program) (left : List Token) → takes_all (got p left) ≡ is_none left
unfolding is_none
got_all p [] = refl
got_all p (t ∷ ts) = refl

stopped_all : (left : List Token) → takes_all (stopped left) ≡ is_none left
unfolding is_none
stopped_all [] = refl
stopped_all (t ∷ ts) = refl

given_all : (p : Program) (left : List Token) → gives_all (got p left) ≡ is_none left
unfolding is_none
given_all p [] = refl
given_all p (t ∷ ts) = refl

module _ (ts left : List Token) where
  pub front_read : (p : Program) (b : Bool) → reading program ts ≡ got p left → IsTrue b ↔ (left ≡ []) → b ≡ is_front ts
  unfolding is_front
  front_read p b h none = none_left b left none ∙ sym (ap takes_all h ∙ got_all p left)

  pub front_stopped : (b : Bool) → reading program ts ≡ stopped left → IsTrue b ↔ (left ≡ []) → b ≡ is_front ts
  unfolding is_front
  front_stopped b h none = none_left b left none ∙ sym (ap takes_all h ∙ stopped_all left)

  pub whole_read : (p : Program) (b : Bool) → reading program ts ≡ got p left → IsTrue b ↔ (left ≡ []) → b ≡ is_whole ts
  unfolding is_whole
  whole_read p b h none = none_left b left none ∙ sym (ap gives_all h ∙ given_all p left)

  pub whole_stopped : reading program ts ≡ stopped left → false ≡ is_whole ts
  unfolding is_whole
  whole_stopped h = sym (ap gives_all h)
