-- Which certificate a number has where certificates are put in.
use Rattle.std.proofs.Common.{◌≡◌, ◌⊎◌, inl, inr, ℕ, zero, suc, ◌<◌, ◌==◌, ◌||◌, not, List, [], ◌∷◌, length, map, take, drop, get_or, Bool, true, false, cond, refl, sym, ◌∙◌, ap, subst, arith, Some, None, if◌then◌else◌, All, ⊎_elim}
use Rattle.std.specs.Prelude.{filter, unwrap_or}
use Rattle.std.proofs.lemmas.List.Elements.{All-cons, All-head, All-nil, All-tail}
use Rattle.std.proofs.lemmas.Bool.{eqb-true, eq-eqb, ne_eqb, true≢false}
use Rattle.cov_ast.specs.Syntax.{Cert, auto, Proof}
use Rattle.typing_law.specs.Entailments.{cert_for}
use Rattle.annotate.specs.WithCertificates.{chosen_for, for_others, is_given, new_among, proof_of, with_certs}

abbrev Choices : Type 0
Choices = List (ℕ × Cert)

new_given : (chosen : Choices) (n : ℕ) → cert_for (map proof_of chosen) n ≡ unwrap_or (chosen_for chosen n) auto
new_given [] n = refl
new_given (c ∷ cs) n = at (c.0 == n) (new_given cs n)
  where
    at : (b : Bool) → cert_for (map proof_of cs) n ≡ unwrap_or (chosen_for cs n) auto
        → (if b then c.1 else cert_for (map proof_of cs) n) ≡ unwrap_or (if b then Some c.1 else chosen_for cs n) auto
    at true e = refl
    at false e = e

-- a number that differs from one has the same chosen with or without what is chosen for this one
pub for_others_same : (m : ℕ) (chosen : Choices) (n : ℕ) → (m == n) ≡ false → chosen_for (for_others m chosen) n ≡ chosen_for chosen n
for_others_same m [] n h = refl
for_others_same m (c ∷ cs) n h = at (c.0 == m) refl (for_others_same m cs n h)
  where
    at : (b : Bool) → (c.0 == m) ≡ b → chosen_for (for_others m cs) n ≡ chosen_for cs n
        → chosen_for (if b then for_others m cs else c ∷ for_others m cs) n ≡ (if c.0 == n then Some c.1 else chosen_for cs n)
    at true i e =
        let other : (c.0 == n) ≡ false = ap (λ k. k == n) (eqb-true c.0 m i) ∙ h in
        e ∙ ap (λ b. if b then Some c.1 else chosen_for cs n) (sym other)
    at false i e = ap (λ o. if c.0 == n then Some c.1 else o) e

pub certs_given : (chosen : Choices) (proofs : List Proof) (n : ℕ) → cert_for (with_certs chosen proofs) n ≡ unwrap_or (chosen_for chosen n) (cert_for proofs n)
certs_given chosen [] n = new_given chosen n
certs_given chosen (q ∷ qs) n = at (q.number == n) refl (certs_given (for_others q.number chosen) qs n)
  where
    at : (b : Bool) → (q.number == n) ≡ b
        → cert_for (with_certs (for_others q.number chosen) qs) n ≡ unwrap_or (chosen_for (for_others q.number chosen) n) (cert_for qs n)
        → (if b then unwrap_or (chosen_for chosen q.number) q.cert else cert_for (with_certs (for_others q.number chosen) qs) n)
        ≡ unwrap_or (chosen_for chosen n) (if b then q.cert else cert_for qs n)
    at true i e = ap (λ k. unwrap_or (chosen_for chosen k) q.cert) (eqb-true q.number n i)
    at false i e = e ∙ ap (λ o. unwrap_or o (cert_for qs n)) (for_others_same q.number chosen n i)

-- Places and numbers -------------------------------------------------------------------------------------------

pub numbers_stay : (chosen : Choices) (proofs : List Proof) (k : ℕ) (d : Proof) → k < length proofs → (get_or (with_certs chosen proofs) k d).number ≡ (get_or proofs k d).number
numbers_stay chosen [] k d h = absurd (omega (arith, h))
numbers_stay chosen (q ∷ qs) zero d h = refl
numbers_stay chosen (q ∷ qs) (suc k) d h = numbers_stay (for_others q.number chosen) qs k d (omega (arith, h))

-- what isn't chosen for a number isn't chosen when others are left out
still_none : (m : ℕ) (chosen : Choices) (n : ℕ) → chosen_for chosen n ≡ None → chosen_for (for_others m chosen) n ≡ None
still_none m [] n h = refl
still_none m (c ∷ cs) n h = at (c.0 == m) (c.0 == n) refl h (λ k. still_none m cs n k)
  where
    at : (a b : Bool) → (c.0 == n) ≡ b → (if b then Some c.1 else chosen_for cs n) ≡ None → (chosen_for cs n ≡ None → chosen_for (for_others m cs) n ≡ None)
        → chosen_for (if a then for_others m cs else c ∷ for_others m cs) n ≡ None
    at a true i h rest = cc
    at true false i h rest = rest h
    at false false i h rest = ap (λ b. if b then Some c.1 else chosen_for (for_others m cs) n) i ∙ rest h

-- for a number itself nothing is chosen when others than it are left
none_left : (m : ℕ) (chosen : Choices) → chosen_for (for_others m chosen) m ≡ None
none_left m [] = refl
none_left m (c ∷ cs) = at (c.0 == m) refl (none_left m cs)
  where
    at : (b : Bool) → (c.0 == m) ≡ b → chosen_for (for_others m cs) m ≡ None → chosen_for (if b then for_others m cs else c ∷ for_others m cs) m ≡ None
    at true i h = h
    at false i h = ap (λ b. if b then Some c.1 else chosen_for (for_others m cs) m) i ∙ h

-- nothing is chosen for a number, or a proof of it is given before
abbrev StaysBehind : Choices → (before : List Proof) → (n : ℕ) → Type 0
StaysBehind chosen before n = (chosen_for chosen n ≡ None) ⊎ (is_given before n ≡ true)

pub others_stay : (chosen : Choices) (proofs : List Proof) (k : ℕ) (d : Proof) → k < length proofs → StaysBehind chosen (take k proofs) (get_or proofs k d).number
    → get_or (with_certs chosen proofs) k d ≡ get_or proofs k d
others_stay chosen [] k d h e = absurd (omega (arith, h))
others_stay chosen (q ∷ qs) zero d h (inl e) = ap (λ o. record { number = q.number; cert = unwrap_or o q.cert }) e
others_stay chosen (q ∷ qs) zero d h (inr e) = absurd (true≢false (sym e))
others_stay chosen (q ∷ qs) (suc k) d h e =
    others_stay (for_others q.number chosen) qs k d (omega (arith, h)) (⊎_elim (λ i. inl (still_none q.number chosen (get_or qs k d).number i)) (behind (q.number == (get_or qs k d).number) refl) e)
  where
    behind : (b : Bool) → (q.number == (get_or qs k d).number) ≡ b → (b || is_given (take k qs) (get_or qs k d).number) ≡ true
        → StaysBehind (for_others q.number chosen) (take k qs) (get_or qs k d).number
    behind true i g = inl (ap (chosen_for (for_others q.number chosen)) (sym (eqb-true q.number (get_or qs k d).number i)) ∙ none_left q.number chosen)
    behind false i g = inr g

-- of what is chosen for other numbers than one, that without a proof
new_behind : (m : ℕ) (qs : List Proof) (chosen : Choices) → new_among (for_others m chosen) qs ≡ filter (λ c. not ((m == c.0) || is_given qs c.0)) chosen
new_behind m qs [] = refl
new_behind m qs (c ∷ cs) = at (c.0 == m) refl (new_behind m qs cs)
  where
    turned : (b : Bool) → (c.0 == m) ≡ b → (m == c.0) ≡ b
    turned true i = eq-eqb m c.0 (sym (eqb-true c.0 m i))
    turned false i = ne_eqb m c.0 (λ e. true≢false (sym (eq-eqb c.0 m (sym e)) ∙ i))

    at : (b : Bool) → (c.0 == m) ≡ b → new_among (for_others m cs) qs ≡ filter (λ x. not ((m == x.0) || is_given qs x.0)) cs
        → new_among (if b then for_others m cs else c ∷ for_others m cs) qs
        ≡ cond (not ((m == c.0) || is_given qs c.0)) (c ∷ filter (λ x. not ((m == x.0) || is_given qs x.0)) cs) (filter (λ x. not ((m == x.0) || is_given qs x.0)) cs)
    at true i rest =
        rest ∙ ap (λ b. cond (not (b || is_given qs c.0)) (c ∷ filter (λ x. not ((m == x.0) || is_given qs x.0)) cs) (filter (λ x. not ((m == x.0) || is_given qs x.0)) cs)) (sym (turned true i))
    at false i rest =
        (λ j. cond (not (is_given qs c.0)) (c ∷ rest j) (rest j))
        ∙ ap (λ b. cond (not (b || is_given qs c.0)) (c ∷ filter (λ x. not ((m == x.0) || is_given qs x.0)) cs) (filter (λ x. not ((m == x.0) || is_given qs x.0)) cs)) (sym (turned false i))

all_new : (chosen : Choices) → new_among chosen [] ≡ chosen
all_new [] = refl
all_new (c ∷ cs) = ap (λ ds. c ∷ ds) (all_new cs)

pub new_stand_behind : (chosen : Choices) (proofs : List Proof) → drop (length proofs) (with_certs chosen proofs) ≡ map proof_of (new_among chosen proofs)
new_stand_behind chosen [] = ap (map proof_of) (sym (all_new chosen))
new_stand_behind chosen (q ∷ qs) = new_stand_behind (for_others q.number chosen) qs ∙ ap (map proof_of) (new_behind q.number qs chosen)

-- What is so of each that is chosen ----------------------------------------------------------------------------

module _ (P : Cert → Type 0) where
  abbrev pub AllChosen : List (ℕ × Cert) → Type 0
  AllChosen cs = All (λ c. P c.1) cs

  chosen_has : (cs : List (ℕ × Cert)) (n : ℕ) (d : Cert) → AllChosen cs → P d → P (unwrap_or (chosen_for cs n) d)
  chosen_has [] n d h k = k
  chosen_has (c ∷ cs) n d h k = go (c.0 == n) (chosen_has cs n d (All-tail (λ c. P c.1) c cs h) k)
    where
      go : (b : Bool) → P (unwrap_or (chosen_for cs n) d) → P (unwrap_or (if b then Some c.1 else chosen_for cs n) d)
      go true r = All-head (λ c. P c.1) c cs h
      go false r = r

  pub chosen_is : (cs : List (ℕ × Cert)) (n : ℕ) (d : Cert) → AllChosen cs → chosen_for cs n ≡ Some d → P d
  chosen_is [] n d h e = cc
  chosen_is (c ∷ cs) n d h e = go (c.0 == n) (chosen_is cs n d (All-tail (λ c. P c.1) c cs h)) e
    where
      go : (b : Bool) → (chosen_for cs n ≡ Some d → P d) → (if b then Some c.1 else chosen_for cs n) ≡ Some d → P d
      go true r i = let same : c.1 ≡ d = cc in subst P same (All-head (λ c. P c.1) c cs h)
      go false r i = r i

  pub others_have : (m : ℕ) (cs : List (ℕ × Cert)) → AllChosen cs → AllChosen (for_others m cs)
  others_have m [] h = h
  others_have m (c ∷ cs) h = go (c.0 == m) (others_have m cs (All-tail (λ c. P c.1) c cs h))
    where
      go : (b : Bool) → AllChosen (for_others m cs) → AllChosen (if b then for_others m cs else c ∷ for_others m cs)
      go true r = r
      go false r = All-cons (λ c. P c.1) c (for_others m cs) (All-head (λ c. P c.1) c cs h) r

  new_have : (cs : List (ℕ × Cert)) → AllChosen cs → All (λ q. P q.cert) (map proof_of cs)
  new_have [] h = All-nil (λ q. P q.cert)
  new_have (c ∷ cs) h = All-cons (λ q. P q.cert) (proof_of c) (map proof_of cs) (All-head (λ c. P c.1) c cs h) (new_have cs (All-tail (λ c. P c.1) c cs h))

  pub proofs_have : (cs : List (ℕ × Cert)) (qs : List Proof) → AllChosen cs → All (λ q. P q.cert) qs → All (λ q. P q.cert) (with_certs cs qs)
  proofs_have cs [] h k = new_have cs h
  proofs_have cs (q ∷ qs) h k =
      All-cons (λ q. P q.cert) (record { number = q.number; cert = unwrap_or (chosen_for cs q.number) q.cert }) (with_certs (for_others q.number cs) qs)
      (chosen_has cs q.number q.cert h (All-head (λ q. P q.cert) q qs k))
      (proofs_have (for_others q.number cs) qs (others_have q.number cs h) (All-tail (λ q. P q.cert) q qs k))
