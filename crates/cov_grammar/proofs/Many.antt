-- Repetitions: one turn and the rest of them, without the count of turns.
use Rattle.std.proofs.Common.{◌≡◌, ℕ, zero, suc, ◌≤◌, ◌<◌, List, [], ◌∷◌, ◌++◌, length, if◌then◌else◌, refl, sym, ap, subst, ◌∙◌, arith}
use Rattle.cov_expr.specs.declared.kind.Kind.{Kind}
use Rattle.cov_grammar.specs.declared.token.Token.{Token}
use Rattle.cov_grammar.specs.Shapes.{Each, head}
use Rattle.cov_grammar.specs.LookAhead.{starts}
use Rattle.cov_grammar.specs.Reading.{Reading, got, stopped, spent, ◌>>=◌, Reader, read_many}
use Rattle.cov_grammar.proofs.Honest.{Fact, Honest, made, made_fact, either_of, either_fact, both_of, Both, both_fact}

-- what is read is taken off
abbrev pub Shrinks : {A : Type 0} → Reader A → Type 0
Shrinks {A} R = (ts : List Token) (v : A) (rest : List Token) → R ts ≡ got v rest → length rest < length ts

abbrev pub many_of : {A : Type 0} → List Kind → Reader A → Reader (List A)
many_of ks R ts = read_many ks R (length ts) ts

abbrev pub nothing_of : {A : Type 0} → Reader (List A)
nothing_of ts = got [] ts

abbrev pub cons_of : {A : Type 0} → A × List A → List A
cons_of x = x.0 ∷ x.1

-- one turn
abbrev pub turn_of : {A : Type 0} → List Kind → Reader A → Reader (List A) → Reader (List A)
turn_of ks R M = either_of ks (made cons_of (both_of R M)) nothing_of

module _ {A : Type 0} (ks : List Kind) (R : Reader A) (shrinks : Shrinks R) where
  abbrev behind : A → Reading (List A) → Reading (List A)
  behind v o = o >>= λ vs last. got (v ∷ vs) last

  -- equal where what comes behind is equal
  same_bind : (ts : List Token) (M N : Reader (List A)) (out : Reading A) → R ts ≡ out → ((rest : List Token) → length rest < length ts → M rest ≡ N rest)
      → (out >>= λ v rest. behind v (M rest)) ≡ (out >>= λ v rest. behind v (N rest))
  same_bind ts M N (got v rest) e f = ap (behind v) (f rest (shrinks ts v rest e))
  same_bind ts M N (stopped bad) e f = refl
  same_bind ts M N spent e f = refl

  turns_same : (n m : ℕ) (ts : List Token) → length ts ≤ n → length ts ≤ m → read_many ks R n ts ≡ read_many ks R m ts
  turns_same zero zero ts h g = refl
  turns_same zero (suc m) [] h g = refl
  turns_same zero (suc m) (t ∷ ts) h g = let no : ⊥ = omega arith in absurd no
  turns_same (suc n) zero [] h g = refl
  turns_same (suc n) zero (t ∷ ts) h g = let no : ⊥ = omega arith in absurd no
  turns_same (suc n) (suc m) ts h g =
      ap (λ o. if starts ks (head ts) then o else got [] ts)
      (same_bind ts (read_many ks R n) (read_many ks R m) (R ts) refl (λ rest l. turns_same n m rest (omega arith) (omega arith)))

  abbrev paired : A → Reading (List A) → Reading (A × List A)
  paired v o = o >>= λ w last. got (v, w) last

  abbrev joined : Reading (A × List A) → Reading (List A)
  joined o = o >>= λ x last. got (cons_of x) last

  behind_is : (v : A) (o : Reading (List A)) → behind v o ≡ joined (paired v o)
  behind_is v (got w last) = refl
  behind_is v (stopped bad) = refl
  behind_is v spent = refl

  pair_is : (M : Reader (List A)) (out : Reading A) → (out >>= λ v rest. behind v (M rest)) ≡ joined (out >>= λ v rest. paired v (M rest))
  pair_is M (got v rest) = behind_is v (M rest)
  pair_is M (stopped bad) = refl
  pair_is M spent = refl

  -- a repetition is one turn and the rest of it
  pub many_is : (ts : List Token) → many_of ks R ts ≡ turn_of ks R (many_of ks R) ts
  many_is [] = refl
  many_is (t ∷ ts) =
      ap (λ o. if starts ks (head (t ∷ ts)) then o else got [] (t ∷ ts))
      (same_bind (t ∷ ts) (read_many ks R (length ts)) (many_of ks R) (R (t ∷ ts)) refl (λ rest l. turns_same (length ts) (length rest) rest (omega arith) (omega arith))
      ∙ pair_is (many_of ks R) (R (t ∷ ts)))

-- facts of a reader are facts of an equal one
fact_same : {A : Type 0} (P : A → List Token → Type 0) (R S : Reader A) → ((ts : List Token) → R ts ≡ S ts) → (ts : List Token) (out : Reading A) → Fact P S ts out → Fact P R ts out
fact_same P R S e ts (got v rest) h = record { front = h.front; split = h.split; is = h.is; local = λ x a. e (h.front ++ x) ∙ h.local x a }
fact_same P R S e ts (stopped bad) h = record { front = h.front; split = h.split; local = λ x a. e (h.front ++ x) ∙ h.local x a; viable = h.viable }
fact_same P R S e ts spent h = tt

nothing_fact : {A : Type 0} (P : A → List Token → Type 0) (ts : List Token) → Fact (Each P) nothing_of ts (got [] ts)
nothing_fact P ts = record { front = []; split = refl; is = refl; local = λ x e. refl }

cons_keeps : {A : Type 0} (P : A → List Token → Type 0) (v : A × List A) (us : List Token) → Both P (Each P) v us → Each P (v.0 ∷ v.1) us
cons_keeps P v us h = h

module _ {A : Type 0} (P : A → List Token → Type 0) (ks : List Kind) (R : Reader A) (shrinks : Shrinks R) (honest : Honest P R) where
  many_step : (ts : List Token) → ((rest : List Token) → length rest < length ts → Fact (Each P) (many_of ks R) rest (many_of ks R rest)) → Fact (Each P) (many_of ks R) ts (many_of ks R ts)
  many_step ts behind =
      subst (Fact (Each P) (many_of ks R) ts) (sym (many_is ks R shrinks ts))
      (fact_same (Each P) (many_of ks R) (turn_of ks R (many_of ks R)) (many_is ks R shrinks) ts (turn_of ks R (many_of ks R) ts)
      (either_fact (Each P) ks (made cons_of (both_of R (many_of ks R))) nothing_of ts
      (made_fact (Both P (Each P)) (Each P) (both_of R (many_of ks R)) cons_of (cons_keeps P) ts (both_of R (many_of ks R) ts)
      (both_fact P (Each P) R (many_of ks R) [] [] refl ts (R ts) refl (honest ts) (λ v rest e. behind rest (shrinks ts v rest e))))
      (nothing_fact P ts)))

  many_within : (n : ℕ) (ts : List Token) → length ts ≤ n → Fact (Each P) (many_of ks R) ts (many_of ks R ts)
  many_within zero ts h = many_step ts (λ rest l. let no : ⊥ = omega arith in absurd no)
  many_within (suc n) ts h = many_step ts (λ rest l. many_within n rest (omega arith))

  pub many_honest : Honest (Each P) (many_of ks R)
  many_honest ts = many_within (length ts) ts (omega arith)
