-- Which numbers are those of axioms of one, two and three letters.
use Rattle.std.proofs.Common.{◌≡◌, ◌≢◌, ℕ, zero, suc, ◌+◌, ◌<◌, ◌≤◌, nat_lt, ◌==◌, List, [], ◌∷◌, length, slice_get, Bool, true, false, Option, Some, None, IfSome, refl, sym, ◌∙◌, ap, subst, if◌then◌else◌, arith}
use Rattle.std.proofs.lemmas.Bool.{eq-eqb, ltb-true}
use Rattle.cov_expr.specs.Term.{Term}
use Rattle.cov_expr.specs.Trees.{vars}
use Rattle.cov_expr.specs.Words.{HasWords}
use Rattle.entail_cert.specs.Axioms.{axioms, numbered, axiom_for}
use Rattle.entail_cert.proofs.Instances.{instance_is, all_at}

-- the numbers of the schemas that have so many letters, counted from a first number
abbrev numbers_with : ℕ → List Term → ℕ → List ℕ
numbers_with k [] i = []
numbers_with k (t ∷ ts) i = if length (vars t) == k then i ∷ numbers_with k ts (i + 1) else numbers_with k ts (i + 1)

abbrev pub IsNoneOf : ℕ → List ℕ → Type 0
IsNoneOf n [] = Unit {0}
IsNoneOf n (v ∷ vs) = (n ≢ v) × IsNoneOf n vs

not_there : (k : ℕ) (ts : List Term) (i j : ℕ) (t : Term) → slice_get ts j ≡ Some t → length (vars t) ≡ k → IsNoneOf (i + j) (numbers_with k ts i) → ⊥
not_there k [] i j t h e n = let c : ◌≡◌ {A = Option Term} None (Some t) = h in cc
not_there k (u ∷ ts) i zero t h e n =
    let same : u ≡ t = cc in
    let here : (length (vars u) == k) ≡ true = eq-eqb (length (vars u)) k (ap (λ t. length (vars t)) same ∙ e) in
    let m = subst (λ b. IsNoneOf (i + 0) (if b then i ∷ numbers_with k ts (i + 1) else numbers_with k ts (i + 1))) here n in
    m.0 (omega arith)
not_there k (u ∷ ts) i (suc j) t h e n =
    not_there k ts (i + 1) j t h e (subst (λ v. IsNoneOf v (numbers_with k ts (i + 1))) (omega arith) (later (length (vars u) == k) n))
  where
    later : (b : Bool) → IsNoneOf (i + suc j) (if b then i ∷ numbers_with k ts (i + 1) else numbers_with k ts (i + 1)) → IsNoneOf (i + suc j) (numbers_with k ts (i + 1))
    later true n = n.1
    later false n = n

none_for : (n : ℕ) (es : List Term) → IsNoneOf n (numbers_with (length es) axioms 1) → None ≡ axiom_for n es
none_for n es h = at (axiom_for n es) refl
  where
    at : (o : Option Term) → axiom_for n es ≡ o → None ≡ axiom_for n es
    at None e = sym e
    at (Some t) e = let s = instance_is n es t e in absurd (unnumbered n s.schema s.numbers s.fits h)
      where
        unnumbered : (n : ℕ) (t : Term) → numbered axioms n ≡ Some t → length es ≡ length (vars t) → IsNoneOf n (numbers_with (length es) axioms 1) → ⊥
        unnumbered zero t i f h = let c : ◌≡◌ {A = Option Term} None (Some t) = i in cc
        unnumbered (suc n) t i f h = not_there (length es) axioms 1 n t i (sym f) (subst (λ v. IsNoneOf v (numbers_with (length es) axioms 1)) (omega arith) h)

-- there is no axiom of the number for these expressions
abbrev pub IsNoAxiom : ℕ → List Term → Type 0
IsNoAxiom n es = (None ≡ axiom_for n es) × IfSome (axiom_for n es) HasWords

no_axiom : (n : ℕ) (es : List Term) → None ≡ axiom_for n es → IsNoAxiom n es
no_axiom n es e = (e, subst (λ o. IfSome o HasWords) e tt)

pub not_of_one : (n : ℕ) (a : Term) → IsNoneOf n (7 ∷ 14 ∷ 15 ∷ 18 ∷ 19 ∷ 22 ∷ 24 ∷ []) → IsNoAxiom n (a ∷ [])
not_of_one n a h = no_axiom n (a ∷ []) (none_for n (a ∷ []) h)

pub not_of_two : (n : ℕ) (a b : Term) → IsNoneOf n (1 ∷ 2 ∷ 3 ∷ 4 ∷ 6 ∷ 9 ∷ 10 ∷ 11 ∷ 13 ∷ 16 ∷ 17 ∷ 20 ∷ 21 ∷ 23 ∷ []) → IsNoAxiom n (a ∷ b ∷ [])
not_of_two n a b h = no_axiom n (a ∷ b ∷ []) (none_for n (a ∷ b ∷ []) h)

pub not_of_three : (n : ℕ) (a b c : Term) → IsNoneOf n (5 ∷ 8 ∷ 12 ∷ []) → IsNoAxiom n (a ∷ b ∷ c ∷ [])
not_of_three n a b c h = no_axiom n (a ∷ b ∷ c ∷ []) (none_for n (a ∷ b ∷ c ∷ []) h)

pub not_of_none : (n : ℕ) (es : List Term) → length es < 1 → IsNoAxiom n es
not_of_none n [] h = no_axiom n [] (none_for n [] tt)
not_of_none n (e ∷ es) h = absurd (omega arith)

few_letters : (n : ℕ) (t : Term) → numbered axioms n ≡ Some t → length (vars t) < 4
few_letters zero t h = let c : ◌≡◌ {A = Option Term} None (Some t) = h in cc
few_letters (suc n) t h = ltb-true (length (vars t)) 4 (all_at (λ t. nat_lt (length (vars t)) 4) axioms n t refl h)

pub not_of_more : (n : ℕ) (es : List Term) → 4 ≤ length es → IsNoAxiom n es
not_of_more n es h = no_axiom n es (at (axiom_for n es) refl)
  where
    at : (o : Option Term) → axiom_for n es ≡ o → None ≡ axiom_for n es
    at None e = sym e
    at (Some t) e =
        let s = instance_is n es t e in
        let few = few_letters n s.schema s.numbers in
        let fits = s.fits in
        absurd (omega arith)
