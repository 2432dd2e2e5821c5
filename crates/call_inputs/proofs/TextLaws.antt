-- Laws of texts: one spells one tree or has one first fault, and never both.
use Rattle.std.proofs.Common.{◌≡◌, ℕ, List, length, Option, Some, None, Result, Ok, Err, inl, inr, sym, ap, ◌∙◌, subst}
use Rattle.std.specs.Prelude.{IfSome}
use Rattle.cov_lex.specs.declared.token.Token as lexed
use Rattle.cov_lex.specs.Lexing.{tokens_of}
use Rattle.cov_lex.specs.declared.fault.LexFault.{LexFault}
use Rattle.cov_grammar.specs.Spells.{spot}
use Rattle.cov_grammar.specs.ReadingLaws.{IsDecided}
use Rattle.cov_grammar.specs.Shapes.{Shape}
use Rattle.cov_grammar.specs.Grammar as grammar
use Rattle.cov_grammar.specs.declared.token.Token.{Token}
use Rattle.cov_grammar.proofs.Exactness.{program_decided}
use Rattle.cov_text.specs.Limits.{in_program}
use Rattle.cov_text.specs.Text.{IsShallow, IsFirstFault, IsText, IsFault, fault_of, words_of, Answers, program_of}
use Rattle.cov_text.specs.declared.fault.Excess.{Excess}
use Rattle.cov_text.specs.declared.fault.ParseFault.{ParseFault}
use Rattle.cov_text.specs.declared.fault.ParseFault.TheVariants as faults
use Rattle.cov_ast.specs.Syntax.{Parsed}
use Rattle.cov_ast.specs.View as view
use Rattle.call_reports.specs.AnswerViews.{Stops}
use Rattle.call_inputs.specs.Programs.{SpellsProgram, IsShownFault, shown}
use Rattle.call_reports.specs.Replies.{malformed}
use Rattle.call_reports.specs.declared.answers.Fault.{Fault}
use Rattle.call_reports.specs.declared.answers.Stop.{Stop}
use Rattle.call_reports.specs.declared.answers.Stop.TheVariants as stops
use Rattle.call_inputs.proofs.ReadingLaws.{IsReading}

pub some_one : {X : Type 0} (o : Option X) (x y : X) → o ≡ Some x → o ≡ Some y → x ≡ y
some_one o x y h k = let e : Some x ≡ Some y = sym h ∙ k in cc

pub not_some : {X : Type 0} (o : Option X) (x : X) → o ≡ None → o ≡ Some x → ⊥
not_some o x h k = let e : None ≡ Some x = sym h ∙ k in cc

-- tokens that aren't too deep have no fault before the grammar's
shallow_not_first : (bytes : List ℕ) (fault : ParseFault) → IsShallow bytes → IsFirstFault (tokens_of bytes) (words_of bytes) fault → ⊥
shallow_not_first bytes fault h first =
    let deepest = subst (λ r. IsFirstFault r (words_of bytes) fault) h.lexes first in
    not_some _ deepest.0 h.shallow deepest.1

first_one : (r : Result (List lexed.Token) LexFault) (ws : List Token) (f g : ParseFault) → IsFirstFault r ws f → IsFirstFault r ws g → f ≡ g
first_one (Err e) ws f g h k = h ∙ sym k
first_one (Ok ts) ws f g (at, deepest, is) (at', deepest', is') = is ∙ ap faults.TooDeep (some_one _ at at' deepest deepest') ∙ sym is'

-- a text of a shape whose grammar is decided
module _ {A : Type 0} (a : Shape A) (limits : A → Option Excess) (decided : IsDecided a) where
  pub one_tree : (bytes : List ℕ) (p q : A) → IsText a limits bytes p → IsText a limits bytes q → p ≡ q
  one_tree bytes p q h k = decided.one_value (words_of bytes) p q h.spelled k.spelled

  tree_or_fault : (bytes : List ℕ) (tree : A) (fault : ParseFault) → IsText a limits bytes tree → IsFault a limits bytes fault → ⊥
  tree_or_fault bytes tree fault h (inl first) = shallow_not_first bytes fault h.tokens first
  tree_or_fault bytes tree fault h (inr (inl wrong)) = decided.not_both (words_of bytes) wrong.bad tree h.spelled wrong.first
  tree_or_fault bytes tree fault h (inr (inr past)) =
      not_some _ past.excess h.small (ap limits (decided.one_value (words_of bytes) tree past.tree h.spelled past.spelled) ∙ past.least)

  one_fault : (bytes : List ℕ) (f g : ParseFault) → IsFault a limits bytes f → IsFault a limits bytes g → f ≡ g
  one_fault bytes f g (inl x) (inl y) = first_one (tokens_of bytes) (words_of bytes) f g x y
  one_fault bytes f g (inl x) (inr (inl y)) = absurd (shallow_not_first bytes f y.tokens x)
  one_fault bytes f g (inl x) (inr (inr y)) = absurd (shallow_not_first bytes f y.tokens x)
  one_fault bytes f g (inr (inl x)) (inl y) = absurd (shallow_not_first bytes g x.tokens y)
  one_fault bytes f g (inr (inl x)) (inr (inl y)) =
      x.is ∙ ap (λ bad. faults.Unexpected (spot (length bytes) bad)) (decided.one_fault (words_of bytes) x.bad y.bad x.first y.first) ∙ sym y.is
  one_fault bytes f g (inr (inl x)) (inr (inr y)) = absurd (decided.not_both (words_of bytes) x.bad y.tree y.spelled x.first)
  one_fault bytes f g (inr (inr x)) (inl y) = absurd (shallow_not_first bytes g x.tokens y)
  one_fault bytes f g (inr (inr x)) (inr (inl y)) = absurd (decided.not_both (words_of bytes) y.bad x.tree x.spelled y.first)
  one_fault bytes f g (inr (inr x)) (inr (inr y)) =
      let tree = decided.one_value (words_of bytes) x.tree y.tree x.spelled y.spelled in
      x.is ∙ ap fault_of (some_one (limits y.tree) x.excess y.excess (sym (ap limits tree) ∙ x.least) y.least) ∙ sym y.is

  -- The first fault of the text is shown so.
  abbrev pub IsShown : List ℕ → Fault → Type 0
  IsShown bytes fault = (found : ParseFault) × IsFault a limits bytes found × (shown found ≡ Some fault)

  pub one_shown : (bytes : List ℕ) (f g : Fault) → IsShown bytes f → IsShown bytes g → f ≡ g
  one_shown bytes f g (found, h, is) (found', h', is') = some_one (shown found') f g (sym (ap shown (one_fault bytes found found' h h')) ∙ is) is'

  pub tree_or_shown : (bytes : List ℕ) (tree : A) (fault : Fault) → IsText a limits bytes tree → IsShown bytes fault → ⊥
  tree_or_shown bytes tree fault h (found, is, e) = tree_or_fault bytes tree found h is

  pub shown_found : {X B : Type 0} (view : X → B) (made : A → B) (bytes : List ℕ) (fault : ParseFault) (found : Fault) → Answers a limits bytes view made (Err fault)
      → shown fault ≡ Some found → IsShown bytes found
  shown_found view made bytes faults.NoMemory found h e = let wrong : None ≡ Some found = e in cc
  shown_found view made bytes fault found h e = (fault, h, e)

-- Programs -----------------------------------------------------------------------------------------------------

one_program : (bytes : List ℕ) (p q : Parsed) → SpellsProgram bytes p → SpellsProgram bytes q → p ≡ q
one_program bytes p q (tree, h, is) (tree', h', is') =
    is ∙ ap (program_of bytes) (one_tree grammar.program in_program program_decided bytes tree tree' h h') ∙ sym is'

program_or_shown : (bytes : List ℕ) (p : Parsed) (fault : Fault) → SpellsProgram bytes p → IsShownFault bytes fault → ⊥
program_or_shown bytes p fault (tree, h, is) wrong = tree_or_shown grammar.program in_program program_decided bytes tree fault h wrong

pub program_reading : IsReading SpellsProgram IsShownFault
program_reading = record {
  one_value = one_program;
  one_fault = one_shown grammar.program in_program program_decided;
  not_both = program_or_shown;
}

-- What is answered ---------------------------------------------------------------------------------------------

-- the fault of bytes that spell no program is shown as it is
pub text_fault_shown : (bytes : List ℕ) (fault : ParseFault) → Answers grammar.program in_program bytes view.parsed (program_of bytes) (Err fault)
    → (o : Option Fault) → o ≡ shown fault → IfSome o (IsShownFault bytes)
text_fault_shown bytes fault h None e = tt
text_fault_shown bytes fault h (Some found) e =
    shown_found grammar.program in_program program_decided view.parsed (program_of bytes) bytes fault found h (sym e)

-- and a file that isn't read has it
pub text_unread : (name bytes : List ℕ) (o : Option Fault) (stop : Stop) → IfSome o (IsShownFault bytes)
    → Stops (λ reply. (found : Fault) × (o ≡ Some found) × (reply ≡ malformed name found)) stop
    → Stops (λ reply. (found : Fault) × IsShownFault bytes found × (reply ≡ malformed name found)) stop
text_unread name bytes o (stops.Answer answer) h (found, e, is) = (found, subst (λ q. IfSome q (IsShownFault bytes)) e h, is)
text_unread name bytes o stops.NoMemory h unread = tt
