-- A text that spells a tree within the limits has no fault, and one tree.
use Rattle.std.proofs.Common.{◌≡◌, ℕ, List, true, Option, Some, None, Result, Ok, Err, sym, ap, ◌∙◌, ⊎_elim}
use Rattle.cov_lex.specs.declared.token.Token as lexed
use Rattle.cov_lex.specs.declared.fault.LexFault.{LexFault}
use Rattle.cov_lex.specs.Lexing.{tokens_of}
use Rattle.cov_grammar.specs.Shapes.{Shape}
use Rattle.cov_grammar.specs.LookAhead.{fine}
use Rattle.cov_grammar.specs.FirstKinds.{first_kinds, more_of}
use Rattle.cov_grammar.proofs.Wholes.{value_one}
use Rattle.cov_grammar.proofs.Unique.{spelled_right}
use Rattle.cov_text.specs.declared.fault.ParseFault.{ParseFault}
use Rattle.cov_text.specs.declared.fault.ParseFault.TheVariants as faults
use Rattle.cov_text.specs.declared.fault.Excess.{Excess}
use Rattle.cov_text.specs.Numbered as words
use Rattle.cov_text.specs.Versioned.{versioned}
use Rattle.cov_text.specs.Text.{lexed_of, numbered_of, words_of, names_of, or_none, IsFirstFault, IsText, IsFault, Answers, Only}

-- Bytes --------------------------------------------------------------------------------------------------------

pub lexes_so : (text : List ℕ) (ts : List lexed.Token) → tokens_of text ≡ Ok ts → tokens_of text ≡ Ok (lexed_of text)
unfolding lexed_of
lexes_so text ts e = e ∙ ap (λ r. Ok (or_none r)) (sym e)

pub lexed_is : (text : List ℕ) (ts : List lexed.Token) → tokens_of text ≡ Ok ts → lexed_of text ≡ ts
unfolding lexed_of
lexed_is text ts e = ap or_none e

pub words_are : (text : List ℕ) (ts : List lexed.Token) → tokens_of text ≡ Ok ts → words_of text ≡ versioned (words.words_of text ts)
unfolding words_of numbered_of
words_are text ts e = ap (λ ts. versioned (words.words_of text ts)) (lexed_is text ts e)

pub names_are : (text : List ℕ) (ts : List lexed.Token) → tokens_of text ≡ Ok ts → names_of text ≡ words.names_of text ts
unfolding names_of
names_are text ts e = ap (words.names_of text) (lexed_is text ts e)

-- Answers ------------------------------------------------------------------------------------------------------

module _ {A X B : Type 0} (a : Shape A) (limits : A → Option Excess) (text : List ℕ) (view : X → B) (made : A → B) where
  -- a text that spells a tree within the limits has no fault
  no_fault : fine first_kinds more_of a ≡ true → (tree : A) → IsText a limits text tree → (fault : ParseFault) → IsFault a limits text fault → ⊥
  no_fault f tree is fault h =
      ⊎_elim (λ first. by_first (tokens_of text) is.tokens.lexes first)
      (⊎_elim (λ g. spelled_right a tree (words_of text) g.bad is.spelled g.first)
      (λ g. let same : tree ≡ g.tree = value_one a f (words_of text) tree g.tree is.spelled g.spelled in
      let no : None ≡ Some g.excess = sym is.small ∙ ap limits same ∙ g.least in cc))
      h
    where
      by_first : (r : Result (List lexed.Token) LexFault) → r ≡ Ok (lexed_of text) → IsFirstFault r (words_of text) fault → ⊥
      by_first (Ok ts) e g = let no : None ≡ Some g.0 = sym is.tokens.shallow ∙ g.1 in cc
      by_first (Err x) e g = cc

  pub only_is : fine first_kinds more_of a ≡ true → (tree : A) → IsText a limits text tree → (r : Result X ParseFault) → Answers a limits text view made r → Only view (made tree) r
  only_is f tree is (Ok x) h = h.2 ∙ ap made (value_one a f (words_of text) h.0 tree h.1.spelled is.spelled)
  only_is f tree is (Err (faults.BadByte at)) h = no_fault f tree is (faults.BadByte at) h
  only_is f tree is (Err (faults.NumberTooLarge at)) h = no_fault f tree is (faults.NumberTooLarge at) h
  only_is f tree is (Err (faults.NameTooLong at)) h = no_fault f tree is (faults.NameTooLong at) h
  only_is f tree is (Err (faults.Unexpected at)) h = no_fault f tree is (faults.Unexpected at) h
  only_is f tree is (Err (faults.TooMany c at)) h = no_fault f tree is (faults.TooMany c at) h
  only_is f tree is (Err (faults.TooDeep at)) h = no_fault f tree is (faults.TooDeep at) h
  only_is f tree is (Err faults.NoMemory) h = tt
