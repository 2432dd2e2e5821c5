-- What holds of each value that right sides of the grammar spell, in tokens whose numbers are words: a law for each way to
-- make a right side.
use Rattle.std.proofs.Common.{List, [], ◌∷◌, Option, Some, None, subst, inl, inr}
use Rattle.std.specs.List.{All}
use Rattle.std.proofs.lemmas.List.Elements.{All-nil, All-cons}
use Rattle.cov_expr.specs.Words.{IsWord}
use Rattle.cov_expr.specs.declared.kind.Kind.{Kind}
use Rattle.cov_grammar.specs.declared.token.Token.{Token}
use Rattle.cov_grammar.specs.Shapes.{Shape, seq, alt, opt, many, act, placed, Each, Sense, Spells}
use Rattle.cov_grammar.specs.Grammar.{◌▸◌, ◌◂◌, separated, listed, none_or, sign, number}
use Rattle.text_law.proofs.NumberWords.{HaveWords, left_words, right_words}

-- of a value, if there is one
abbrev pub OfOption : {A : Type 0} → (A → Type 0) → Option A → Type 0
OfOption P None = Unit {0}
OfOption P (Some x) = P x

-- Where rules inside spell what `inside` says.
module _ (inside : Sense) where
  -- Each value of the right side that such tokens spell has this.
  pub record Gives {A : Type 0} (a : Shape A) (P : A → Type 0) : Type 0 where
    pub of : (v : A) (ts : List Token) → HaveWords ts → Spells inside a v ts → P v

  pub any_law : {A : Type 0} {a : Shape A} → Gives a (λ v. Unit {0})
  any_law = record { of = λ v ts words s. tt }

  pub act_law : {A B : Type 0} {a : Shape A} {P : A → Type 0} (f : A → B) (Q : B → Type 0) → Gives a P → ((v : A) → P v → Q (f v)) → Gives (act f a) Q
  act_law f Q t e = record { of = λ v ts words s. subst Q s.1 (e s.0 (t.of s.0 ts words s.2)) }

  pub seq_law : {A B : Type 0} {a : Shape A} {c : Shape B} {P : A → Type 0} {Q : B → Type 0} → Gives a P → Gives c Q → Gives (seq a c) (λ x. P x.0 × Q x.1)
  seq_law t u = record {
    of = λ v ts words s. (t.of v.0 s.0 (left_words s.0 s.1 ts s.4 words) s.2, u.of v.1 s.1 (right_words s.0 s.1 ts s.4 words) s.3);
  }

  pub alt_law : {A : Type 0} {a c : Shape A} {P : A → Type 0} → Gives a P → Gives c P → Gives (alt a c) P
  alt_law {A = A} {a = a} {c = c} {P = P} t u = record { of = by }
    where
      by : (v : A) (ts : List Token) → HaveWords ts → Spells inside (alt a c) v ts → P v
      by v ts words (inl s) = t.of v ts words s
      by v ts words (inr s) = u.of v ts words s

  pub opt_law : {A : Type 0} {a : Shape A} {P : A → Type 0} → Gives a P → Gives (opt a) (OfOption P)
  opt_law {A = A} {a = a} {P = P} t = record { of = by }
    where
      by : (v : Option A) (ts : List Token) → HaveWords ts → Spells inside (opt a) v ts → OfOption P v
      by None ts words s = tt
      by (Some v) ts words s = t.of v ts words s

  pub many_law : {A : Type 0} {a : Shape A} {P : A → Type 0} → Gives a P → Gives (many a) (All P)
  many_law {A = A} {a = a} {P = P} t = record { of = by }
    where
      by : (vs : List A) (ts : List Token) → HaveWords ts → Each (Spells inside a) vs ts → All P vs
      by [] ts words s = All-nil P
      by (v ∷ vs) ts words s =
          All-cons P v vs (t.of v s.0 (left_words s.0 s.1 ts s.4 words) s.2) (by vs s.1 (right_words s.0 s.1 ts s.4 words) s.3)

  pub placed_law : {A : Type 0} {a : Shape A} {P : A → Type 0} → Gives a P → Gives (placed a) (λ x. P x.1)
  placed_law t = record { of = λ v ts words s. t.of v.1 ts words s.1 }

  -- Tokens -----------------------------------------------------------------------------------------------------

  pub behind_law : {A : Type 0} {a : Shape A} {P : A → Type 0} (j : Kind) → Gives a P → Gives (j ▸ a) P
  behind_law {P = P} j t = record {
    of = λ v ts words s. subst P s.1 (t.of s.0.1 s.2.1 (right_words s.2.0 s.2.1 ts s.2.4 words) s.2.3);
  }

  pub closed_law : {A : Type 0} {a : Shape A} {P : A → Type 0} (j : Kind) → Gives a P → Gives (a ◂ j) P
  closed_law {P = P} j t = record {
    of = λ v ts words s. subst P s.1 (t.of s.0.0 s.2.0 (left_words s.2.0 s.2.1 ts s.2.4 words) s.2.2);
  }

  pub sign_law : {A : Type 0} (j : Kind) (v : A) (P : A → Type 0) → P v → Gives (sign j v) P
  sign_law j v P h = record { of = λ w ts words s. subst P s.1 h }

  pub number_law : Gives number IsWord
  number_law = record { of = λ v ts words s. subst IsWord s.1 ((subst HaveWords s.2.1 words).0 s.2.0) }

  -- Lists ------------------------------------------------------------------------------------------------------

  pub separated_law : {A : Type 0} {a : Shape A} {P : A → Type 0} (j : Kind) → Gives a P → Gives (separated j a) (All P)
  separated_law {P = P} j t = act_law (λ x. x.0 ∷ x.1) (All P) (seq_law t (many_law (behind_law j t))) (λ x h. All-cons P x.0 x.1 h.0 h.1)

  pub listed_law : {A : Type 0} {a : Shape (List A)} (P : A → Type 0) → Gives a (All P) → Gives (listed a) (All P)
  listed_law {A = A} P t = act_law none_or (All P) (opt_law t) by
    where
      by : (v : Option (List A)) → OfOption (All P) v → All P (none_or v)
      by None h = All-nil P
      by (Some v) h = h
