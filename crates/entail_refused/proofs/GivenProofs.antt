-- The certificates of statements, by place: where the places of a thread's statements differ, each place leads to its own.
use Rattle.std.proofs.Common.{◌≡◌, ℕ, ◌==◌, List, [], ◌∷◌, ◌++◌, map, Bool, true, false, not, cond, if◌then◌else◌, Option, Some, None, refl, sym, ap, ◌∙◌, subst, eq-eqb, eqb-true}
use Rattle.std.specs.Prelude.{option_map, unwrap_or}
use Rattle.std.specs.List.{list_any}
use Rattle.std.specs.Option.{option_or}
use Rattle.std.proofs.lemmas.Bool.{and_parts, or_left, or_right, not-true, false_from_ne_true, true≢false}
use Rattle.std.proofs.lemmas.List.{map-append}
use Rattle.cov_ast.specs.Syntax.{Stm, skip, branch, loop, Block, done, more, Proof, auto}
use Rattle.cov_ast.specs.WellFormed.{are_distinct, places, places_within}
use Rattle.entail_cert.specs.Valid.{is_valid}
use Rattle.entail_text.specs.Given as text
use Rattle.statement_paths.specs.Paths.{Step, passed, yes, no, head, Way, with_steps_in_front, here, way_to, way_within}
use Rattle.typing_law.specs.Entailments.{Entailment, is_proved}
use Rattle.typing_law.specs.Entailments as rules
use Rattle.typing_law.specs.ThreadEntailments.{placed_proofs, proofs_within}
use Rattle.entail_refused.specs.GivenCertificates.{cert_among, cert_of}

-- each place leads to the certificates there
module _ (given : ℕ → List Proof) where
  abbrev pub AreGiven : List (ℕ × List Proof) → Type 0
  AreGiven [] = Unit {0}
  AreGiven (r ∷ rs) = (given r.0 ≡ r.1) × AreGiven rs

  pub given_left : (rs qs : List (ℕ × List Proof)) → AreGiven (rs ++ qs) → AreGiven rs
  given_left [] qs h = tt
  given_left (r ∷ rs) qs h = (h.0, given_left rs qs h.1)

  pub given_right : (rs qs : List (ℕ × List Proof)) → AreGiven (rs ++ qs) → AreGiven qs
  given_right [] qs h = h
  given_right (r ∷ rs) qs h = given_right rs qs h.1

-- Places -----------------------------------------------------------------------------------------------------------

abbrev keys : List (ℕ × List Proof) → List ℕ
keys rs = map (λ r. r.0) rs

mutual
  stm_keys : (s : Stm) → keys (proofs_within s) ≡ places_within s
  stm_keys skip = refl
  stm_keys (branch e a b join) = map-append (λ r. r.0) (placed_proofs a) (placed_proofs b) ∙ (λ i. block_keys a i ++ block_keys b i)
  stm_keys (loop e inv b) = block_keys b
  stm_keys _ = refl

  block_keys : (b : Block) → keys (placed_proofs b) ≡ places b
  block_keys done = refl
  block_keys (more at s proofs b) =
      ap (λ xs. at ∷ xs) (map-append (λ r. r.0) (proofs_within s) (placed_proofs b) ∙ (λ i. stm_keys s i ++ block_keys b i))

-- the first of a place
abbrev look_up : ℕ → List (ℕ × List Proof) → Option (List Proof)
look_up place [] = None
look_up place (r ∷ rs) = if r.0 == place then Some r.1 else look_up place rs

look_up-append : (place : ℕ) (rs qs : List (ℕ × List Proof)) → look_up place (rs ++ qs) ≡ option_or (look_up place rs) (look_up place qs)
look_up-append place [] qs = refl
look_up-append place (r ∷ rs) qs = go (look_up-append place rs qs) (r.0 == place)
  where
    go : look_up place (rs ++ qs) ≡ option_or (look_up place rs) (look_up place qs) → (b : Bool)
        → cond b (Some r.1) (look_up place (rs ++ qs)) ≡ option_or (cond b (Some r.1) (look_up place rs)) (look_up place qs)
    go h true = refl
    go h false = h

-- the certificates at the end of a way
abbrev proofs_of : Option Way → Option (List Proof)
proofs_of o = option_map (λ w. w.proofs) o

proofs_behind : (front : List Step) (o : Option Way) → proofs_of (option_map (with_steps_in_front front) o) ≡ proofs_of o
proofs_behind front None = refl
proofs_behind front (Some w) = refl

proofs_of_either : (a b : Option Way) → proofs_of (option_or a b) ≡ option_or (proofs_of a) (proofs_of b)
proofs_of_either None b = refl
proofs_of_either (Some w) b = refl

mutual
  stm_found : (at : ℕ) (s : Stm) (place : ℕ) → proofs_of (way_within at s place) ≡ look_up place (proofs_within s)
  stm_found at skip place = refl
  stm_found at (branch e a b join) place =
      proofs_of_either (option_map (with_steps_in_front (yes at e ∷ [])) (way_to a place)) (option_map (with_steps_in_front (no at e ∷ [])) (way_to b place))
      ∙ (λ i. option_or (proofs_behind (yes at e ∷ []) (way_to a place) i) (proofs_behind (no at e ∷ []) (way_to b place) i))
      ∙ (λ i. option_or (block_found a place i) (block_found b place i)) ∙ sym (look_up-append place (placed_proofs a) (placed_proofs b))
  stm_found at (loop e inv b) place = proofs_behind (head at inv ∷ yes at e ∷ []) (way_to b place) ∙ block_found b place
  stm_found at _ place = refl

  block_found : (b : Block) (place : ℕ) → proofs_of (way_to b place) ≡ look_up place (placed_proofs b)
  block_found done place = refl
  block_found (more at s proofs b) place =
      proofs_of_either (cond (at == place) (Some (here s proofs)) (way_within at s place)) (option_map (with_steps_in_front (passed at s ∷ [])) (way_to b place))
      ∙ ap (option_or (proofs_of (cond (at == place) (Some (here s proofs)) (way_within at s place))))
      (proofs_behind (passed at s ∷ []) (way_to b place) ∙ block_found b place)
      ∙ go (ap (λ o. option_or o (look_up place (placed_proofs b))) (stm_found at s place) ∙ sym (look_up-append place (proofs_within s) (placed_proofs b))) (at == place)
    where
      go : option_or (proofs_of (way_within at s place)) (look_up place (placed_proofs b)) ≡ look_up place (proofs_within s ++ placed_proofs b) → (c : Bool)
          → option_or (proofs_of (cond c (Some (here s proofs)) (way_within at s place))) (look_up place (placed_proofs b))
          ≡ cond c (Some proofs) (look_up place (proofs_within s ++ placed_proofs b))
      go h true = refl
      go h false = h

-- what is found in the whole list is found in each rest of it
each_given : (f : ℕ → List Proof) (rs : List (ℕ × List Proof)) → are_distinct (◌==◌) (keys rs) ≡ true
    → ((x : ℕ) → list_any (λ y. x == y) (keys rs) ≡ true → f x ≡ unwrap_or (look_up x rs) []) → AreGiven f rs
each_given f [] d h = tt
each_given f (r ∷ rs) d h =
    let both = and_parts (not (list_any (λ y. r.0 == y) (keys rs))) (are_distinct (◌==◌) (keys rs)) d in
    let apart : (x : ℕ) → list_any (λ y. x == y) (keys rs) ≡ true → (r.0 == x) ≡ false = λ x i. false_from_ne_true (r.0 == x)
    (λ e. true≢false (sym (subst (λ z. list_any (λ y. z == y) (keys rs) ≡ true) (sym (eqb-true r.0 x e)) i) ∙ not-true _ both.0)) in (
      h r.0 (or_left _ _ (eq-eqb r.0 r.0 refl)) ∙ ap (λ b. unwrap_or (cond b (Some r.1) (look_up r.0 rs)) []) (eq-eqb r.0 r.0 refl),
      each_given f rs both.1
          (λ x i. h x (or_right (x == r.0) _ i) ∙ ap (λ b. unwrap_or (cond b (Some r.1) (look_up x rs)) []) (apart x i)),
    )

-- the certificates of the statement at a place
abbrev pub given_at : Block → ℕ → List Proof
given_at b place = unwrap_or (proofs_of (way_to b place)) []

pub all_given : (b : Block) → are_distinct (◌==◌) (places b) ≡ true → AreGiven (given_at b) (placed_proofs b)
all_given b d =
    each_given (given_at b) (placed_proofs b) (subst (λ xs. are_distinct (◌==◌) xs ≡ true) (sym (block_keys b)) d)
    (λ x i. ap (λ o. unwrap_or o []) (block_found b x))

-- One certificate ------------------------------------------------------------------------------------------------------

same_cert : (qs : List Proof) (n : ℕ) → rules.cert_for qs n ≡ unwrap_or (text.cert_for qs n) auto
same_cert [] n = refl
same_cert (q ∷ qs) n = go (same_cert qs n) (q.number == n)
  where
    go : rules.cert_for qs n ≡ unwrap_or (text.cert_for qs n) auto → (b : Bool)
        → cond b q.cert (rules.cert_for qs n) ≡ unwrap_or (cond b (Some q.cert) (text.cert_for qs n)) auto
    go h true = refl
    go h false = h

-- an entailment is proved by the certificate that is given for it
proved_as_given : (o : Option Way) (n : ℕ) (g : Entailment)
    → is_proved (unwrap_or (proofs_of o) []) n g ≡ is_valid g.hyps g.goal (unwrap_or (cert_among o n) auto)
proved_as_given None n g = refl
proved_as_given (Some w) n g = ap (is_valid g.hyps g.goal) (same_cert w.proofs n)

pub unproved_as_given : (b : Block) (place n : ℕ) (g : Entailment) → is_proved (given_at b place) n g ≡ false
    → is_valid g.hyps g.goal (unwrap_or (cert_of b place n) auto) ≡ false
unproved_as_given b place n g h = sym (proved_as_given (way_to b place) n g) ∙ h
