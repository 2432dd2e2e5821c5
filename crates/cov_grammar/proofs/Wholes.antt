-- What is answered for all tokens of a text.
--
-- The first part is for every right side that one token of look-ahead decides. A reader of a whole text cites it for its own.
use Rattle.std.proofs.Common.{◌≡◌, ℕ, List, [], ◌∷◌, ◌⊎◌, true, Result, Ok, Err, refl, sym, ap, ◌∙◌, inl, inr}
use Rattle.cov_grammar.specs.declared.token.Token.{Token}
use Rattle.cov_grammar.specs.declared.stop.Stop.{Stop}
use Rattle.cov_grammar.specs.declared.stop.Stop.TheVariants as stops
use Rattle.cov_grammar.specs.declared.fault.TokenFault.{TokenFault}
use Rattle.cov_grammar.specs.declared.fault.TokenFault.TheVariants as faults
use Rattle.cov_grammar.specs.Shapes.{Shape}
use Rattle.cov_grammar.specs.Spells.{Is, FirstWrong}
use Rattle.cov_grammar.specs.LookAhead.{fine}
use Rattle.cov_grammar.specs.FirstKinds.{first_kinds, more_of}
use Rattle.cov_grammar.specs.Reading.{Reading, got, stopped, spent, ◌>>=◌, reading, ended, all_of}
use Rattle.cov_grammar.specs.ReaderAnswers.{Gives, whole_answer, Stands, Answers, Only}
use Rattle.cov_grammar.proofs.Exact.{all_sound, all_complete, all_first, all_ends}

-- what a reader of a front answered, made the answer for all tokens
pub finish_stands : {X A : Type 0} (view : X → A) (end : ℕ) (left : List Token) (r : Result X Stop) (o : Reading A) → Gives view left r o → Stands view end (whole_answer end left r) (o >>= ended)
finish_stands view end [] (Ok x) o h = ap (λ q. q >>= ended) h
finish_stands view end (t ∷ ts) (Ok x) o h = (t ∷ ts, ap (λ q. q >>= ended) h, refl)
finish_stands view end [] (Err stops.Unexpected) o h = ([], ap (λ q. q >>= ended) h, refl)
finish_stands view end (t ∷ ts) (Err stops.Unexpected) o h = (t ∷ ts, ap (λ q. q >>= ended) h, refl)
finish_stands view end [] (Err stops.NoMemory) o h = tt
finish_stands view end (t ∷ ts) (Err stops.NoMemory) o h = tt

module _ {X A : Type 0} (a : Shape A) (f : fine first_kinds more_of a ≡ true) (view : X → A) (end : ℕ) (ts : List Token) where
  -- an answer that is what reading gives is right
  pub whole_answers : (r : Result X TokenFault) → Stands view end r (all_of a ts) → Answers a view end ts r
  whole_answers (Ok x) h = all_sound a f ts (view x) h
  whole_answers (Err (faults.Unexpected at)) h = (h.0, all_first a f ts h.0 h.1, h.2)
  whole_answers (Err faults.NoMemory) h = tt

  -- and it is the only right one
  pub whole_only : (r : Result X TokenFault) → Stands view end r (all_of a ts) → (v : A) → Is a v ts → Only view v r
  whole_only (Ok x) h v is = let e : got (view x) [] ≡ got v [] = sym h ∙ all_complete a f v ts is in cc
  whole_only (Err (faults.Unexpected at)) h v is = let e : stopped h.0 ≡ got v [] = sym h.1 ∙ all_complete a f v ts is in cc
  whole_only (Err faults.NoMemory) h v is = tt

-- Trees and faults of tokens -----------------------------------------------------------------------------------

module _ {A : Type 0} (a : Shape A) (f : fine first_kinds more_of a ≡ true) (ts : List Token) where
  -- tokens spell one value at most
  pub value_one : (v w : A) → Is a v ts → Is a w ts → v ≡ w
  value_one v w h g = let e : got v [] ≡ got w [] = sym (all_complete a f v ts h) ∙ all_complete a f w ts g in cc

  -- tokens spell a value, or one of them is the first wrong one
  pub value_or_fault : ((v : A) × Is a v ts) ⊎ ((bad : List Token) × FirstWrong a ts bad)
  value_or_fault = by (reading a ts) refl
    where
      by : (o : Reading A) → reading a ts ≡ o → ((v : A) × Is a v ts) ⊎ ((bad : List Token) × FirstWrong a ts bad)
      by (got v []) e = inl (v, all_sound a f ts v (ap (λ q. q >>= ended) e))
      by (got v (t ∷ us)) e = inr (t ∷ us, all_first a f ts (t ∷ us) (ap (λ q. q >>= ended) e))
      by (stopped bad) e = inr (bad, all_first a f ts bad (ap (λ q. q >>= ended) e))
      by spent e = absurd (all_ends a f ts (ap (λ q. q >>= ended) e))
