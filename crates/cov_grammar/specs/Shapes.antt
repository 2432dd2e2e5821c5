-- A grammar as data: a right side whose type says what it means, and which tokens spell which of its values.
--
-- A right side is a parsing expression with semantic actions, as in parser combinators, but it says only what is
-- spelled: `alt` takes no order, and nothing here speaks of a reader.
use Rattle.std.specs.Prelude.{◌≡◌, ℕ, List, [], ◌∷◌, ◌++◌, Option, Some, None, ◌⊎◌}
use Rattle.cov_expr.specs.declared.kind.Kind.{Kind}
use Rattle.cov_grammar.specs.declared.token.Token.{Token}
use Rattle.cov_grammar.specs.PlacedTrees.{Rule, Meaning}

-- The right side of a rule, which means values of a type:
-- a token of a kind; a rule; one after the other; either; one or none; any number; a value made of the value; and the
-- value with the place of its first token.
pub data Shape : Type 0 → Type 1 where
  token : Kind → Shape Token
  rule : (r : Rule) → Shape (Meaning r)
  seq : {A B : Type 0} → Shape A → Shape B → Shape (A × B)
  alt : {A : Type 0} → Shape A → Shape A → Shape A
  opt : {A : Type 0} → Shape A → Shape (Option A)
  many : {A : Type 0} → Shape A → Shape (List A)
  act : {A B : Type 0} → (A → B) → Shape A → Shape B
  placed : {A : Type 0} → Shape A → Shape (ℕ × A)

-- What the tokens of a text begin with -------------------------------------------------------------------------

-- the place of the first token
abbrev pub place : List Token → ℕ
place [] = 0
place (t ∷ ts) = t.at

-- the kind of the first token, if there is one
abbrev pub head : List Token → Option Kind
head [] = None
head (t ∷ ts) = Some t.kind

-- What is spelled ----------------------------------------------------------------------------------------------

-- what each rule spells: which tokens spell which of its trees
abbrev pub Sense : Type 1
Sense = (r : Rule) → Meaning r → List Token → Type 0

-- The tokens are in pieces one after the other, and each of them spells the value at its place in the list.
abbrev pub Each : {A : Type 0} → (A → List Token → Type 0) → List A → List Token → Type 0
Each P [] ts = ts ≡ []
Each P (x ∷ xs) ts = (us : List Token) × (vs : List Token) × P x us × Each P xs vs × (ts ≡ us ++ vs)

-- The tokens spell a value of the right side, where the rules in it spell what `inside` says.
abbrev pub Spells : (inside : Sense) → {A : Type 0} → Shape A → A → List Token → Type 0
Spells inside (token k) v ts = (v.kind ≡ k) × (ts ≡ v ∷ [])
Spells inside (rule r) v ts = inside r v ts
Spells inside (seq a b) v ts = (us : List Token) × (vs : List Token) × Spells inside a v.0 us × Spells inside b v.1 vs × (ts ≡ us ++ vs)
Spells inside (alt a b) v ts = Spells inside a v ts ⊎ Spells inside b v ts
Spells inside (opt a) None ts = ts ≡ []
Spells inside (opt a) (Some v) ts = Spells inside a v ts
Spells inside (many a) vs ts = Each (Spells inside a) vs ts
Spells inside (act {A} f a) v ts = (u : A) × (f u ≡ v) × Spells inside a u ts
Spells inside (placed a) v ts = (v.0 ≡ place ts) × Spells inside a v.1 ts
