-- Honest readers: what is read is spelled so, what stops could go on, and of what stands behind nothing counts but the kind of
-- the next token.
--
-- From the last, with completeness, it follows that a fault is where no text goes on: a text that went on there would be
-- read, and would not, since the reader sees no further.
use Rattle.std.proofs.Common.{◌≡◌, List, ◌++◌, Bool, true, false, if◌then◌else◌, refl, sym, ap, ◌∙◌, append_assoc}
use Rattle.cov_expr.specs.declared.kind.Kind.{Kind}
use Rattle.cov_grammar.specs.declared.token.Token.{Token}
use Rattle.cov_grammar.specs.Shapes.{head}
use Rattle.cov_grammar.specs.LookAhead.{starts}
use Rattle.cov_grammar.specs.Reading.{Reading, got, stopped, spent, ◌>>=◌, Reader}
use Rattle.cov_grammar.proofs.Basics.{head_alike}

-- The reader took a front that spells the value, and would take it in front of anything that begins with the same kind.
pub record Took {A : Type 0} (P : A → List Token → Type 0) (R : Reader A) (v : A) (ts rest : List Token) : Type 0 where
  pub front : List Token
  pub split : ts ≡ front ++ rest
  pub is : P v front
  pub local : (x : List Token) → head x ≡ head rest → R (front ++ x) ≡ got v x

-- The reader stopped behind a front that can go on, and would stop there in front of anything that begins with the same kind.
pub record Fell {A : Type 0} (P : A → List Token → Type 0) (R : Reader A) (ts bad : List Token) : Type 0 where
  pub front : List Token
  pub split : ts ≡ front ++ bad
  pub local : (x : List Token) → head x ≡ head bad → R (front ++ x) ≡ stopped x
  pub viable : (v : A) × (rest : List Token) × P v (front ++ rest)

-- what is so of what the reader gave
abbrev pub Fact : {A : Type 0} → (A → List Token → Type 0) → Reader A → List Token → Reading A → Type 0
Fact P R ts (got v rest) = Took P R v ts rest
Fact P R ts (stopped bad) = Fell P R ts bad
Fact P R ts spent = Unit {0}

-- The reader is honest about what P says is spelled.
abbrev pub Honest : {A : Type 0} → (A → List Token → Type 0) → Reader A → Type 0
Honest P R = (ts : List Token) → Fact P R ts (R ts)

-- a value made of the value
abbrev pub made : {A B : Type 0} → (A → B) → Reader A → Reader B
made f R ts = R ts >>= λ v rest. got (f v) rest

pub made_fact : {A B : Type 0} (P : A → List Token → Type 0) (Q : B → List Token → Type 0) (R : Reader A) (f : A → B) (keeps : (v : A) (us : List Token) → P v us → Q (f v) us)
    → (ts : List Token) (out : Reading A) → Fact P R ts out → Fact Q (made f R) ts (out >>= λ v rest. got (f v) rest)
made_fact P Q R f keeps ts (got v rest) h = record {
  front = h.front;
  split = h.split;
  is = keeps v h.front h.is;
  local = λ x e. ap (λ o. o >>= λ v rest. got (f v) rest) (h.local x e);
}
made_fact P Q R f keeps ts (stopped bad) h = record {
  front = h.front;
  split = h.split;
  local = λ x e. ap (λ o. o >>= λ v rest. got (f v) rest) (h.local x e);
  viable = (f h.viable.0, h.viable.1, keeps h.viable.0 (h.front ++ h.viable.1) h.viable.2);
}
made_fact P Q R f keeps ts spent h = tt

pub made_honest : {A B : Type 0} (P : A → List Token → Type 0) (Q : B → List Token → Type 0) (R : Reader A) (f : A → B) → ((v : A) (us : List Token) → P v us → Q (f v) us)
    → Honest P R → Honest Q (made f R)
made_honest P Q R f keeps h ts = made_fact P Q R f keeps ts (R ts) (h ts)

-- by the token ahead
abbrev pub either_of : {A : Type 0} → List Kind → Reader A → Reader A → Reader A
either_of ks R S ts = if starts ks (head ts) then R ts else S ts

module _ {A : Type 0} (P : A → List Token → Type 0) (ks : List Kind) (R S : Reader A) where
  ahead_is : (ts us rest x : List Token) (b : Bool) → starts ks (head ts) ≡ b → ts ≡ us ++ rest → head x ≡ head rest → either_of ks R S (us ++ x) ≡ (if b then R (us ++ x) else S (us ++ x))
  ahead_is ts us rest x b e s h =
      ap (λ o. if starts ks o then R (us ++ x) else S (us ++ x)) (head_alike us x rest h ∙ ap head (sym s)) ∙ ap (λ c. if c then R (us ++ x) else S (us ++ x)) e

  left_fact : (ts : List Token) (out : Reading A) → starts ks (head ts) ≡ true → Fact P R ts out → Fact P (either_of ks R S) ts out
  left_fact ts (got v rest) e h = record { front = h.front; split = h.split; is = h.is; local = λ x a. ahead_is ts h.front rest x true e h.split a ∙ h.local x a }
  left_fact ts (stopped bad) e h = record { front = h.front; split = h.split; local = λ x a. ahead_is ts h.front bad x true e h.split a ∙ h.local x a; viable = h.viable }
  left_fact ts spent e h = tt

  right_fact : (ts : List Token) (out : Reading A) → starts ks (head ts) ≡ false → Fact P S ts out → Fact P (either_of ks R S) ts out
  right_fact ts (got v rest) e h = record { front = h.front; split = h.split; is = h.is; local = λ x a. ahead_is ts h.front rest x false e h.split a ∙ h.local x a }
  right_fact ts (stopped bad) e h = record { front = h.front; split = h.split; local = λ x a. ahead_is ts h.front bad x false e h.split a ∙ h.local x a; viable = h.viable }
  right_fact ts spent e h = tt

  pub either_fact : (ts : List Token) → Fact P R ts (R ts) → Fact P S ts (S ts) → Fact P (either_of ks R S) ts (either_of ks R S ts)
  either_fact ts r s =
      elim (starts ks (head ts)) as (λ b. starts ks (head ts) ≡ b → Fact P (either_of ks R S) ts (if b then R ts else S ts)) [
        | true ↦ λ e. left_fact ts (R ts) e r
        | false ↦ λ e. right_fact ts (S ts) e s
      ] refl

-- one after the other
abbrev pub both_of : {A B : Type 0} → Reader A → Reader B → Reader (A × B)
both_of R S ts = R ts >>= λ v rest. S rest >>= λ w last. got (v, w) last

abbrev pub Both : {A B : Type 0} → (A → List Token → Type 0) → (B → List Token → Type 0) → A × B → List Token → Type 0
Both P Q v ts = (us : List Token) × (vs : List Token) × P v.0 us × Q v.1 vs × (ts ≡ us ++ vs)

module _ {A B : Type 0} (P : A → List Token → Type 0) (Q : B → List Token → Type 0) (R : Reader A) (S : Reader B) where
  abbrev onward : A → Reading B → Reading (A × B)
  onward v o = o >>= λ w last. got (v, w) last

  -- the second part, behind the first
  second : (ts rest : List Token) (v : A) → Took P R v ts rest → (out : Reading B) → Fact Q S rest out → Fact (Both P Q) (both_of R S) ts (out >>= λ w last. got (v, w) last)
  second ts rest v h (got w last) g = record {
    front = h.front ++ g.front;
    split = h.split ∙ ap (λ us. h.front ++ us) g.split ∙ sym (append_assoc h.front g.front last);
    is = (h.front, g.front, h.is, g.is, refl);
    local = λ x e.
        ap (both_of R S) (append_assoc h.front g.front x)
        ∙ ap (λ o. o >>= λ v rest. onward v (S rest)) (h.local (g.front ++ x) (head_alike g.front x last e ∙ ap head (sym g.split)))
        ∙ ap (onward v) (g.local x e);
  }
  second ts rest v h (stopped bad) g = record {
    front = h.front ++ g.front;
    split = h.split ∙ ap (λ us. h.front ++ us) g.split ∙ sym (append_assoc h.front g.front bad);
    local = λ x e.
        ap (both_of R S) (append_assoc h.front g.front x)
        ∙ ap (λ o. o >>= λ v rest. onward v (S rest)) (h.local (g.front ++ x) (head_alike g.front x bad e ∙ ap head (sym g.split)))
        ∙ ap (onward v) (g.local x e);
    viable = ((v, g.viable.0), g.viable.1, (h.front, g.front ++ g.viable.1, h.is, g.viable.2, append_assoc h.front g.front g.viable.1));
  }
  second ts rest v h spent g = tt

  pub both_fact : (w : B) (ws : List Token) → Q w ws → (ts : List Token) (out : Reading A) → R ts ≡ out → Fact P R ts out → ((v : A) (rest : List Token) → R ts ≡ got v rest → Fact Q S rest (S rest))
      → Fact (Both P Q) (both_of R S) ts (out >>= λ v rest. S rest >>= λ w last. got (v, w) last)
  both_fact w ws q ts (got v rest) e h g = second ts rest v h (S rest) (g v rest e)
  both_fact w ws q ts (stopped bad) e h g = record {
    front = h.front;
    split = h.split;
    local = λ x a. ap (λ o. o >>= λ v rest. onward v (S rest)) (h.local x a);
    viable = ((h.viable.0, w), h.viable.1 ++ ws, (h.front ++ h.viable.1, ws, h.viable.2, q, sym (append_assoc h.front h.viable.1 ws)));
  }
  both_fact w ws q ts spent e h g = tt
