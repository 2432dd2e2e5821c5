-- Tokens have one first wrong token at most, and none where they spell a value. No reader is spoken of.
use Rattle.std.proofs.Common.{◌≡◌, List, [], ◌∷◌, ◌++◌, Some, ◌⊎◌, inl, inr, refl, sym, ap, subst, ◌∙◌, append-nil}
use Rattle.cov_grammar.specs.declared.token.Token.{Token}
use Rattle.cov_grammar.specs.Shapes.{Shape, head}
use Rattle.cov_grammar.specs.Spells.{Is, GoesOn, FirstWrong}

-- one front is a part of the other
abbrev pub Beyond : List Token → List Token → List Token → Type 0
Beyond us bs vs = (t : Token) × (rest : List Token) × (vs ≡ us ++ t ∷ rest) × (head bs ≡ Some t.kind)

behind_head : List Token → List Token
behind_head [] = []
behind_head (x ∷ xs) = xs

first_token : Token → List Token → Token
first_token d [] = d
first_token d (x ∷ xs) = x

fronts : (us bs vs cs : List Token) → us ++ bs ≡ vs ++ cs → (bs ≡ cs) ⊎ (Beyond us bs vs ⊎ Beyond vs cs us)
unfolding behind_head first_token
fronts [] bs [] cs e = inl e
fronts [] bs (v ∷ vs) cs e = inr (inl (v, vs, refl, ap head e))
fronts (u ∷ us) bs [] cs e = inr (inr (u, us, refl, sym (ap head e)))
fronts (u ∷ us) bs (v ∷ vs) cs e = by (fronts us bs vs cs (ap behind_head e))
  where
    same : u ≡ v
    same = ap (first_token u) e

    by : (bs ≡ cs) ⊎ (Beyond us bs vs ⊎ Beyond vs cs us) → (bs ≡ cs) ⊎ (Beyond (u ∷ us) bs (v ∷ vs) ⊎ Beyond (v ∷ vs) cs (u ∷ us))
    by (inl h) = inl h
    by (inr (inl h)) = inr (inl (h.0, h.1, (λ i. sym same i ∷ h.2 i), h.3))
    by (inr (inr h)) = inr (inr (h.0, h.1, (λ i. same i ∷ h.2 i), h.3))

beyond_not : {A : Type 0} (a : Shape A) (us bs vs : List Token) → Beyond us bs vs → GoesOn a vs → ((t : Token) (rest : List Token) → head bs ≡ Some t.kind → GoesOn a (us ++ t ∷ rest) → ⊥) → ⊥
beyond_not a us bs vs h g n = n h.0 h.1 h.3 (subst (GoesOn a) h.2 g)

-- the place of the fault is one
pub first_unique : {A : Type 0} (a : Shape A) (ts bs cs : List Token) → FirstWrong a ts bs → FirstWrong a ts cs → bs ≡ cs
first_unique a ts bs cs h g = by (fronts h.front bs g.front cs (sym h.split ∙ g.split))
  where
    by : (bs ≡ cs) ⊎ (Beyond h.front bs g.front ⊎ Beyond g.front cs h.front) → bs ≡ cs
    by (inl e) = e
    by (inr (inl e)) = absurd (beyond_not a h.front bs g.front e g.goes_on h.next)
    by (inr (inr e)) = absurd (beyond_not a g.front cs h.front e h.goes_on g.next)

-- what is spelled has no fault
pub spelled_right : {A : Type 0} (a : Shape A) (v : A) (ts bs : List Token) → Is a v ts → FirstWrong a ts bs → ⊥
spelled_right a v ts [] is h = h.none refl v is
spelled_right a v ts (t ∷ rest) is h = h.next t rest refl (v, [], subst (Is a v) (h.split ∙ sym (append-nil (h.front ++ t ∷ rest))) is)
