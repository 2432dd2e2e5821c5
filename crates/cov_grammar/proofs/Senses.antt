-- What rules spell, at every depth: deeper spells no less, and one depth is enough for all parts.
use Rattle.std.proofs.Common.{◌≡◌, ℕ, zero, suc, List, [], ◌∷◌, ◌++◌, true, false, ◌&&◌, Some, None, refl, sym, ap, subst, ◌∙◌, inl, inr}
use Rattle.std.proofs.lemmas.Bool.{or_right, or_left}
use Rattle.cov_grammar.specs.declared.token.Token.{Token}
use Rattle.cov_grammar.specs.PlacedTrees.{Rule, Meaning}
use Rattle.cov_grammar.specs.Shapes.{Shape, token, rule, seq, alt, opt, many, act, placed, Each, Sense, Spells}
use Rattle.cov_grammar.specs.Grammar.{body}
use Rattle.cov_grammar.specs.Spells.{Within, Is}
use Rattle.cov_grammar.specs.LookAhead.{nullable}
use Rattle.cov_grammar.proofs.TableLaws.{full_body}

-- what the first says is spelled, the second does
abbrev pub Implies : {A : Type 0} → (A → List Token → Type 0) → (A → List Token → Type 0) → Type 0
Implies {A} P Q = (v : A) (ts : List Token) → P v ts → Q v ts

pub each_map : {A : Type 0} (P Q : A → List Token → Type 0) → Implies P Q → (vs : List A) (ts : List Token) → Each P vs ts → Each Q vs ts
each_map P Q f [] ts h = h
each_map P Q f (v ∷ vs) ts h = (h.0, h.1, f v h.0 h.2, each_map P Q f vs h.1 h.3, h.4)

module _ (S T : Sense) (f : (r : Rule) → Implies (S r) (T r)) where
  pub spells_map : {A : Type 0} (a : Shape A) → Implies (Spells S a) (Spells T a)
  spells_map (token k) v ts h = h
  spells_map (rule r) v ts h = f r v ts h
  spells_map (seq a b) v ts h = (h.0, h.1, spells_map a v.0 h.0 h.2, spells_map b v.1 h.1 h.3, h.4)
  spells_map (alt a b) v ts (inl h) = inl (spells_map a v ts h)
  spells_map (alt a b) v ts (inr h) = inr (spells_map b v ts h)
  spells_map (opt a) None ts h = h
  spells_map (opt a) (Some v) ts h = spells_map a v ts h
  spells_map (many a) vs ts h = each_map (Spells S a) (Spells T a) (spells_map a) vs ts h
  spells_map (act g a) v ts h = (h.0, h.1, spells_map a h.0 ts h.2)
  spells_map (placed a) v ts h = (h.0, spells_map a v.1 ts h.1)

-- the greater of two
abbrev pub top : ℕ → ℕ → ℕ
top zero e = e
top (suc d) zero = suc d
top (suc d) (suc e) = suc (top d e)

up_left : (d e : ℕ) (r : Rule) → Implies (Within d r) (Within (top d e) r)
up_left zero e r v ts h = absurd h
up_left (suc d) zero r v ts h = h
up_left (suc d) (suc e) r v ts h = spells_map (Within d) (Within (top d e)) (up_left d e) (body r) v ts h

up_right : (d e : ℕ) (r : Rule) → Implies (Within e r) (Within (top d e) r)
up_right zero e r v ts h = h
up_right (suc d) zero r v ts h = absurd h
up_right (suc d) (suc e) r v ts h = spells_map (Within e) (Within (top d e)) (up_right d e) (body r) v ts h

-- a rule, at some depth
abbrev pub AtSome : Sense
AtSome r v ts = (d : ℕ) × Within d r v ts

abbrev pub OfShape : {A : Type 0} → Shape A → A → List Token → Type 0
OfShape a v ts = Spells AtSome a v ts

module _ {A : Type 0} (a : Shape A) (g : (v : A) (ts : List Token) → OfShape a v ts → Is a v ts) where
  gather_each : (vs : List A) (ts : List Token) → Each (OfShape a) vs ts → (d : ℕ) × Each (Spells (Within d) a) vs ts
  gather_each [] ts h = (0, h)
  gather_each (v ∷ vs) ts h =
      let x = g v h.0 h.2 in
      let y = gather_each vs h.1 h.3 in (
        top x.0 y.0,
        (
          h.0,
          h.1,
          spells_map (Within x.0) (Within (top x.0 y.0)) (up_left x.0 y.0) a v h.0 x.1,
          each_map (Spells (Within y.0) a) (Spells (Within (top x.0 y.0)) a) (spells_map (Within y.0) (Within (top x.0 y.0)) (up_right x.0 y.0) a) vs h.1 y.1,
          h.4,
        ),
      )

-- one depth for all rules
pub gather : {A : Type 0} (a : Shape A) (v : A) (ts : List Token) → OfShape a v ts → Is a v ts
gather (token k) v ts h = (0, h)
gather (rule r) v ts h = h
gather (seq a b) v ts h =
    let x = gather a v.0 h.0 h.2 in
    let y = gather b v.1 h.1 h.3 in
    (top x.0 y.0, (h.0, h.1, spells_map (Within x.0) (Within (top x.0 y.0)) (up_left x.0 y.0) a v.0 h.0 x.1, spells_map (Within y.0) (Within (top x.0 y.0)) (up_right x.0 y.0) b v.1 h.1 y.1, h.4))
gather (alt a b) v ts (inl h) = let x = gather a v ts h in (x.0, inl x.1)
gather (alt a b) v ts (inr h) = let x = gather b v ts h in (x.0, inr x.1)
gather (opt a) None ts h = (0, h)
gather (opt a) (Some v) ts h = gather a v ts h
gather (many a) vs ts h = gather_each a (gather a) vs ts h
gather (act g a) v ts h = let x = gather a h.0 ts h.2 in (x.0, (h.0, h.1, x.1))
gather (placed a) v ts h = let x = gather a v.1 ts h.1 in (x.0, (h.0, x.1))

-- a rule is what its right side is
pub close : (r : Rule) (v : Meaning r) (ts : List Token) → OfShape (body r) v ts → AtSome r v ts
close r v ts h = let x = gather (body r) v ts h in (suc x.0, x.1)

pub spread : {A : Type 0} (a : Shape A) (v : A) (ts : List Token) → Is a v ts → OfShape a v ts
spread a v ts h = spells_map (Within h.0) AtSome (λ r v us g. (h.0, g)) a v ts h.1

pub nil_parts : (us vs : List Token) → [] ≡ us ++ vs → (us ≡ []) × (vs ≡ [])
nil_parts [] vs h = (refl, sym h)
nil_parts (u ∷ us) vs h = cc

-- Where no rule spells the empty list, `nullable` says what does.
module _ (S : Sense) (full : (r : Rule) (v : Meaning r) → S r v [] → ⊥) where
  pub nullable_ok : {A : Type 0} (a : Shape A) (v : A) (ts : List Token) → ts ≡ [] → Spells S a v ts → nullable a ≡ true
  nullable_ok (token k) v ts e h = let no : v ∷ [] ≡ [] = sym h.1 ∙ e in cc
  nullable_ok (rule r) v ts e h = absurd (full r v (subst (S r v) e h))
  nullable_ok (seq a b) v ts e h =
      let p = nil_parts h.0 h.1 (sym e ∙ h.4) in
      ap (λ c. c && nullable b) (nullable_ok a v.0 h.0 p.0 h.2) ∙ nullable_ok b v.1 h.1 p.1 h.3
  nullable_ok (alt a b) v ts e (inl h) = or_left (nullable a) (nullable b) (nullable_ok a v ts e h)
  nullable_ok (alt a b) v ts e (inr h) = or_right (nullable a) (nullable b) (nullable_ok b v ts e h)
  nullable_ok (opt a) v ts e h = refl
  nullable_ok (many a) v ts e h = refl
  nullable_ok (act g a) v ts e h = nullable_ok a h.0 ts e h.2
  nullable_ok (placed a) v ts e h = nullable_ok a v.1 ts e h.1

pub full_at : (d : ℕ) (r : Rule) (v : Meaning r) → Within d r v [] → ⊥
full_at zero r v h = h
full_at (suc d) r v h = let e : true ≡ false = sym (nullable_ok (Within d) (full_at d) (body r) v [] refl h) ∙ full_body r in cc

pub full_some : (r : Rule) (v : Meaning r) → AtSome r v [] → ⊥
full_some r v h = full_at h.0 r v h.1
