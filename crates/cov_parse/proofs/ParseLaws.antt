-- From tokens and trees to the answer for a text.
use Rattle.std.proofs.Common.{◌≡◌, ℕ, List, length, inl, inr, Option, Some, None, Result, Ok, Err, refl, sym, ap, subst, ◌∙◌}
use Rattle.cov_lex.specs.declared.fault.LexFault.{LexFault}
use Rattle.cov_lex.specs.declared.fault.LexFault.TheVariants as lex
use Rattle.cov_lex.specs.Lexing.{tokens_of}
use Rattle.cov_lex.specs.Lexing as lexing
use Rattle.cov_grammar.specs.declared.token.Token.{Token}
use Rattle.cov_grammar.specs.declared.stop.Stop.{Stop}
use Rattle.cov_grammar.specs.declared.fault.TokenFault.{TokenFault}
use Rattle.cov_grammar.specs.declared.fault.TokenFault.TheVariants as tokens
use Rattle.cov_grammar.specs.Shapes.{Shape}
use Rattle.cov_grammar.specs.Grammar.{program, whole}
use Rattle.cov_grammar.specs.Spells.{Is, FirstWrong, spot}
use Rattle.cov_grammar.specs.Reading.{reading}
use Rattle.cov_grammar.specs.ReaderAnswers as answers
use Rattle.cov_grammar.proofs.TableLaws.{fine_program}
use Rattle.cov_grammar.proofs.Wholes.{finish_stands, whole_answers}
use Rattle.cov_text.specs.declared.fault.ParseFault.{ParseFault}
use Rattle.cov_text.specs.declared.fault.ParseFault.TheVariants as faults
use Rattle.cov_text.specs.declared.fault.Limit.{Limit}
use Rattle.cov_text.specs.declared.fault.Limit.TheVariants.{TooMany, TooDeep}
use Rattle.cov_text.specs.declared.fault.Excess.{Excess}
use Rattle.cov_text.specs.Depth.{deep}
use Rattle.cov_parse.specs.declared.tokens.Tokens.{Tokens}
use Rattle.cov_read.specs.declared.decl.PlacedProgram.{PlacedProgram}
use Rattle.cov_read.specs.declared.cert.Whole.{Whole}
use Rattle.cov_read.specs.CertViews as certs
use Rattle.cov_read.specs.DeclViews as decls
use Rattle.cov_text.specs.Text.{words_of, lexical, unexpected, fault_at, IsFirstFault, IsShallow, Answers}
use Rattle.cov_parse.specs.ReadTokens.{AreRead}
use Rattle.cov_parse.specs.Reads.{Reads}

-- All tokens ---------------------------------------------------------------------------------------------------

pub program_answers : (end : ℕ) (ts left : List Token) (read : Result PlacedProgram Stop) (r : Result PlacedProgram TokenFault) → answers.Gives decls.program left read (reading program ts) → r ≡ answers.whole_answer end left read
    → answers.Answers program decls.program end ts r
program_answers end ts left read r h e =
    subst (answers.Answers program decls.program end ts) (sym e) (whole_answers program fine_program decls.program end ts (answers.whole_answer end left read) (finish_stands decls.program end left read (reading program ts) h))

pub expr_answers : (end : ℕ) (ts left : List Token) (read : Result Whole Stop) (r : Result Whole TokenFault) → answers.Gives certs.whole left read (reading whole ts) → r ≡ answers.whole_answer end left read
    → answers.Answers whole certs.whole end ts r
expr_answers end ts left read r h e =
    subst (answers.Answers whole certs.whole end ts) (sym e) (whole_answers whole refl certs.whole end ts (answers.whole_answer end left read) (finish_stands certs.whole end left read (reading whole ts) h))

-- Bytes --------------------------------------------------------------------------------------------------------

pub lexical_fault : (text : List ℕ) (e : LexFault) → lexing.Gives (Err e) (tokens_of text) → Reads text (Err (lexical e))
lexical_fault text (lex.BadByte at) h = subst (λ r. IsFirstFault r (words_of text) (faults.BadByte at)) (sym h) refl
lexical_fault text (lex.NumberTooLarge at) h = subst (λ r. IsFirstFault r (words_of text) (faults.NumberTooLarge at)) (sym h) refl
lexical_fault text (lex.NameTooLong at) h = subst (λ r. IsFirstFault r (words_of text) (faults.NameTooLong at)) (sym h) refl
lexical_fault text lex.NoMemory h = tt

-- what was read of the bytes
module _ (text : List ℕ) (r : Tokens) (read : AreRead text (Ok r)) where
  pub deep_fault : (at : ℕ) → Some at ≡ deep 0 0 r.tokens → Reads text (Err (faults.TooDeep at))
  deep_fault at h =
      subst (λ ts. IsFirstFault ts (words_of text) (faults.TooDeep at)) (sym read.0)
      (at, ap (deep 0 0) (sym read.2) ∙ sym h, refl)

  pub reads_tokens : None ≡ deep 0 0 r.tokens → Reads text (Ok r)
  reads_tokens h = (record { lexes = read.0; shallow = ap (deep 0 0) (sym read.2) ∙ sym h }, read.1, read.2)

-- Answers ------------------------------------------------------------------------------------------------------

module _ {A X B : Type 0} (a : Shape A) (limits : A → Option Excess) (text : List ℕ) (view : X → B) (made : A → B) where
  pub fault_before : (fault : ParseFault) → Reads text (Err fault) → Answers a limits text view made (Err fault)
  fault_before (faults.BadByte at) h = inl h
  fault_before (faults.NumberTooLarge at) h = inl h
  fault_before (faults.NameTooLong at) h = inl h
  fault_before (faults.Unexpected at) h = inl h
  fault_before (faults.TooMany c at) h = inl h
  fault_before (faults.TooDeep at) h = inl h
  fault_before faults.NoMemory h = tt

  pub fault_within : {Y : Type 0} (shown : Y → A) (end : ℕ) (ws : List Token) (e : TokenFault) → IsShallow text → ws ≡ words_of text → end ≡ length text → answers.Answers a shown end ws (Err e)
      → Answers a limits text view made (Err (unexpected e))
  fault_within shown end ws (tokens.Unexpected at) shallow same len h =
      inr (inl (record {
        tokens = shallow;
        bad = h.0;
        first = subst (λ us. FirstWrong a us h.0) same h.1;
        is = ap faults.Unexpected (h.2 ∙ ap (λ n. spot n h.0) len);
      }))
  fault_within shown end ws tokens.NoMemory shallow same len h = tt

  pub fault_past : {Y : Type 0} (shown : Y → A) (y : Y) (end : ℕ) (ws : List Token) (at : ℕ) (limit : Limit) → IsShallow text → ws ≡ words_of text → answers.Answers a shown end ws (Ok y) → limits (shown y) ≡ Some (record { at = at; limit = limit })
      → Answers a limits text view made (Err (fault_at at limit))
  fault_past shown y end ws at (TooMany c) shallow same h g =
      inr (inr (record { tokens = shallow; tree = shown y; spelled = subst (Is a (shown y)) same h; excess = record { at = at; limit = TooMany c }; least = g; is = refl }))
  fault_past shown y end ws at TooDeep shallow same h g =
      inr (inr (record { tokens = shallow; tree = shown y; spelled = subst (Is a (shown y)) same h; excess = record { at = at; limit = TooDeep }; least = g; is = refl }))

  pub answer_is : {Y : Type 0} (shown : Y → A) (y : Y) (x : X) (end : ℕ) (ws : List Token) → IsShallow text → ws ≡ words_of text → answers.Answers a shown end ws (Ok y) → limits (shown y) ≡ None → view x ≡ made (shown y)
      → Answers a limits text view made (Ok x)
  answer_is shown y x end ws shallow same h g e = (shown y, record { tokens = shallow; spelled = subst (Is a (shown y)) same h; small = g }, e)
