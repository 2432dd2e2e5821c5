-- A text of levels says one thing.
use Rattle.std.proofs.Common.{◌≡◌, ℕ, List, length, Option, Some, None, Result, Ok, Err, refl, inl, inr, ◌⊎◌, sym, ap, ◌∙◌, subst}
use Rattle.std.proofs.lemmas.Option.{same_Some}
use Rattle.cov_ast.specs.Syntax.{Parsed}
use Rattle.cov_lex.specs.declared.token.Token as lexed
use Rattle.cov_lex.specs.declared.fault.LexFault.{LexFault}
use Rattle.cov_lex.specs.Lexing.{tokens_of}
use Rattle.cov_grammar.specs.Spells.{spot}
use Rattle.cov_grammar.specs.declared.token.Token.{Token}
use Rattle.cov_text.specs.Text.{IsShallow, IsFirstFault, IsFault, IsText, fault_of, names_of, words_of}
use Rattle.cov_text.specs.declared.fault.ParseFault.{ParseFault}
use Rattle.cov_text.specs.declared.fault.ParseFault.TheVariants as faults
use Rattle.level_text.specs.declared.fault.LevelFault.{LevelFault}
use Rattle.level_text.specs.declared.fault.LevelFault.TheVariants as kinds
use Rattle.level_text.specs.Lattice.{Levels}
use Rattle.level_text.specs.LevelReads.{Spells, fault_of_tree, GivesLevels, HasFault, HasOneReading}
use Rattle.level_text.specs.LevelReads as read
use Rattle.level_text.specs.TextFaults.{in_level_text, levels_given}
use Rattle.level_text.specs.TextGrammar.{level_text}
use Rattle.level_text.specs.TextTrees.{LevelText}
use Rattle.level_text.proofs.TextItems.{text_decided}

-- Faults of the grammar and its limits ---------------------------------------------------------------------------------

module _ (text : List ℕ) where
  -- an answer is one thing at most
  one_thing : {X : Type 0} {o : Option X} {x y : X} → o ≡ Some x → o ≡ Some y → x ≡ y
  one_thing {X} {o} {x} {y} h k = same_Some x y (sym h ∙ k)

  not_both : {X : Type 0} {o : Option X} {x : X} → o ≡ None → o ≡ Some x → ⊥
  not_both {X} {o} {x} h k = let e : None ≡ Some x = sym h ∙ k in cc

  shallow_not_first : (fault : ParseFault) → IsShallow text → IsFirstFault (tokens_of text) (words_of text) fault → ⊥
  shallow_not_first fault h first =
      let deepest = subst (λ r. IsFirstFault r (words_of text) fault) h.lexes first in
      not_both h.shallow deepest.1

  first_one : (r : Result (List lexed.Token) LexFault) (ws : List Token) (f g : ParseFault) → IsFirstFault r ws f → IsFirstFault r ws g → f ≡ g
  first_one (Err e) ws f g h k = h ∙ sym k
  first_one (Ok ts) ws f g (at, deepest, is) (at', deepest', is') = is ∙ ap faults.TooDeep (one_thing deepest deepest') ∙ sym is'

  one_tree : (t u : LevelText) → IsText level_text in_level_text text t → IsText level_text in_level_text text u → t ≡ u
  one_tree t u h k = text_decided.one_value (words_of text) t u h.spelled k.spelled

  tree_or_fault : (t : LevelText) (fault : ParseFault) → IsText level_text in_level_text text t → IsFault level_text in_level_text text fault → ⊥
  tree_or_fault t fault h (inl first) = shallow_not_first fault h.tokens first
  tree_or_fault t fault h (inr (inl wrong)) = text_decided.not_both (words_of text) wrong.bad t h.spelled wrong.first
  tree_or_fault t fault h (inr (inr past)) =
      not_both h.small (ap in_level_text (text_decided.one_value (words_of text) t past.tree h.spelled past.spelled) ∙ past.least)

  fault_one : (f g : ParseFault) → IsFault level_text in_level_text text f → IsFault level_text in_level_text text g → f ≡ g
  fault_one f g (inl x) (inl y) = first_one (tokens_of text) (words_of text) f g x y
  fault_one f g (inl x) (inr (inl y)) = absurd (shallow_not_first f y.tokens x)
  fault_one f g (inl x) (inr (inr y)) = absurd (shallow_not_first f y.tokens x)
  fault_one f g (inr (inl x)) (inl y) = absurd (shallow_not_first g x.tokens y)
  fault_one f g (inr (inl x)) (inr (inl y)) =
      x.is ∙ ap (λ bad. faults.Unexpected (spot (length text) bad)) (text_decided.one_fault (words_of text) x.bad y.bad x.first y.first) ∙ sym y.is
  fault_one f g (inr (inl x)) (inr (inr y)) = absurd (text_decided.not_both (words_of text) x.bad y.tree y.spelled x.first)
  fault_one f g (inr (inr x)) (inl y) = absurd (shallow_not_first g x.tokens y)
  fault_one f g (inr (inr x)) (inr (inl y)) = absurd (text_decided.not_both (words_of text) y.bad x.tree x.spelled y.first)
  fault_one f g (inr (inr x)) (inr (inr y)) =
      let same = text_decided.one_value (words_of text) x.tree y.tree x.spelled y.spelled in
      x.is ∙ ap fault_of (one_thing (sym (ap in_level_text same) ∙ x.least) y.least) ∙ sym y.is

  -- Either of both kinds ---------------------------------------------------------------------------------------------

  module _ (p : Parsed) where
    -- a fault is one of the text, or one of its tree
    abbrev Kind : LevelFault → Type 0
    Kind f = ((fault : ParseFault) × (f ≡ kinds.Text fault) × IsFault level_text in_level_text text fault) ⊎ HasFault text p f

    kind_of : (f : LevelFault) → read.IsFirstFault text p f → Kind f
    kind_of (kinds.Text (faults.BadByte at)) h = inl (faults.BadByte at, refl, h)
    kind_of (kinds.Text (faults.NumberTooLarge at)) h = inl (faults.NumberTooLarge at, refl, h)
    kind_of (kinds.Text (faults.NameTooLong at)) h = inl (faults.NameTooLong at, refl, h)
    kind_of (kinds.Text (faults.Unexpected at)) h = inl (faults.Unexpected at, refl, h)
    kind_of (kinds.Text (faults.TooMany c at)) h = inl (faults.TooMany c at, refl, h)
    kind_of (kinds.Text (faults.TooDeep at)) h = inl (faults.TooDeep at, refl, h)
    kind_of (kinds.Text faults.NoMemory) h = absurd h
    kind_of (kinds.Many at) h = inr h
    kind_of (kinds.Same at) h = inr h
    kind_of (kinds.Unknown at) h = inr h
    kind_of (kinds.Plain at) h = inr h
    kind_of kinds.NoMemory h = absurd h

    one_of : (f g : LevelFault) → Kind f → Kind g → f ≡ g
    one_of f g (inl (x, e, h)) (inl (y, e', k)) = e ∙ ap kinds.Text (fault_one x y h k) ∙ sym e'
    one_of f g (inl (x, e, h)) (inr (t, spells, is)) = absurd (tree_or_fault t x spells h)
    one_of f g (inr (t, spells, is)) (inl (y, e, k)) = absurd (tree_or_fault t y spells k)
    one_of f g (inr (t, spells, is)) (inr (u, spells', is')) =
        one_thing (sym (ap (fault_of_tree text p) (one_tree t u spells spells')) ∙ is) is'

    given_or : (l : Levels) (f : LevelFault) → GivesLevels text p l → Kind f → ⊥
    given_or l f (t, spells, none, is) (inl (x, e, h)) = tree_or_fault t x spells h
    given_or l f (t, spells, none, is) (inr (u, spells', is')) =
        not_both (sym (ap (fault_of_tree text p) (one_tree t u spells spells')) ∙ none) is'

    one_given : (l m : Levels) → GivesLevels text p l → GivesLevels text p m → l ≡ m
    one_given l m (t, spells, none, is) (u, spells', none', is') = is ∙ ap (levels_given (names_of text) p) (one_tree t u spells spells') ∙ sym is'

pub one_reading : (text : List ℕ) (p : Parsed) → HasOneReading text p
one_reading text p = record {
  one_value = one_given text p;
  one_fault = λ f g h k. one_of text p f g (kind_of text p f h) (kind_of text p g k);
  not_both = λ l f h k. given_or text p l f h (kind_of text p f k);
}
