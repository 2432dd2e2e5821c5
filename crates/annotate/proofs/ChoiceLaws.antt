-- What is chosen for an entailment is what it has in the annotated program, and it is open there exactly where it has no valid certificate and none is found.
use Rattle.std.proofs.Common.{◌≡◌, ◌⊎◌, inl, inr, ℕ, suc, ◌≤◌, ◌<◌, ◌==◌, ◌&&◌, ◌||◌, not, List, [], ◌∷◌, ◌++◌, length, map, Bool, true, false, cond, if◌then◌else◌, Option, Some, None, refl, sym, ap, ◌∙◌, subst, arith, IsTrue, true≢false, eq-eqb, eqb-true, ne_eqb, All}
use Rattle.std.specs.Prelude.{filter, flat_map, is_none, unwrap_or, Contains, Ok}
use Rattle.std.specs.List.{list_any, range_with_len}
use Rattle.std.proofs.lemmas.Bool.{cases_lt}
use Rattle.std.proofs.lemmas.List.{get_or_past, map-append}
use Rattle.std.proofs.lemmas.List.Elements.{All-cons, All-nil, Contains-append_left, Contains-append_right, Contains-push}
use Rattle.cov_ast.specs.Syntax.{Cert, Proof, Stm, branch, loop, Block, done, more, Thread, Program}
use Rattle.cov_ast.specs.WellFormed.{are_distinct, places, places_within, IsWellFormed}
use Rattle.entail_cert.specs.Valid.{is_valid}
use Rattle.mode_compat.specs.Compatible.{no_thread, numbered, threads_of}
use Rattle.typing_law.specs.Entailments.{Entailment, cert_for}
use Rattle.typing_law.specs.ThreadEntailments.{PlacedEntailment, is_proved_in, placed_from, placed_proofs, proofs_among, proofs_at, proofs_within, thread_entailments}
use Rattle.cert_search.specs.Classes.{IsFound, HasNone}
use Rattle.cert_search.proofs.Sound.{search_sound}
use Rattle.cert_search.proofs.Told.{told}
use Rattle.annotate.specs.Annotated.{annotated, as_choice, cert_of, choices, choices_among, found_for, IsAnnotated, IsChoice, open_in_thread, open_of, searched, unproved}
use Rattle.annotate.specs.NotFound.{is_not_found, not_found, not_found_in_thread}
use Rattle.annotate.specs.WithCertificates.{AreRisingAbove, chosen_for, put_in, put_in_stm, put_in_threads, with_certs}
use Rattle.annotate.proofs.PutLaws.{certs_given}
use Rattle.annotate.proofs.PlacedLaws.{numbered_put_in}
use Rattle.annotate.proofs.EntailmentLaws.{put_in_same}
use Rattle.annotate.proofs.NumberLaws.{is_at, at_place, is_in, thread_elsewhere, thread_numbered}

-- Members ------------------------------------------------------------------------------------------------------

abbrev pub Among : List PlacedEntailment → PlacedEntailment → Type 0
Among [] g = ⊥
Among (h ∷ hs) g = (h ≡ g) ⊎ Among hs g

among_at : (x : ℕ) (gs : List PlacedEntailment) (g : PlacedEntailment) → Among gs g → g.place ≡ x → Among (at_place x gs) g
among_at x [] g m e = m
among_at x (h ∷ hs) g m e = go (is_at x h) refl m (λ k. among_at x hs g k e)
  where
    go : (b : Bool) → (h.place == x) ≡ b → (h ≡ g) ⊎ Among hs g → (Among hs g → Among (at_place x hs) g) → Among (cond b (h ∷ at_place x hs) (at_place x hs)) g
    go true i (inl k) rest = inl k
    go true i (inr k) rest = inr (rest k)
    go false i (inl k) rest = absurd (true≢false (sym (eq-eqb h.place x (ap (λ f. f.place) k ∙ e)) ∙ i))
    go false i (inr k) rest = rest k

-- Choices ------------------------------------------------------------------------------------------------------

module _ (depth : ℕ) (body : Block) where
  abbrev choices_all : List PlacedEntailment → List (ℕ × Cert)
  choices_all [] = []
  choices_all (g ∷ gs) = as_choice g.number (found_for depth body g) ++ choices_all gs

  choices_at : (x : ℕ) (gs : List PlacedEntailment) → choices_among depth body gs x ≡ choices_all (at_place x gs)
  choices_at x [] = refl
  choices_at x (g ∷ gs) = go (is_at x g) (choices_at x gs)
    where
      go : (b : Bool) → choices_among depth body gs x ≡ choices_all (at_place x gs)
          → (if b then as_choice g.number (found_for depth body g) else []) ++ choices_among depth body gs x ≡ choices_all (cond b (g ∷ at_place x gs) (at_place x gs))
      go true h = ap (λ cs. as_choice g.number (found_for depth body g) ++ cs) h
      go false h = h

  no_choice : (x n : ℕ) (es : List Entailment) (m : ℕ) → m < n → chosen_for (choices_all (placed_from x n es)) m ≡ None
  no_choice x n [] m h = refl
  no_choice x n (e ∷ es) m h = go (found_for depth body (record { place = x; number = n; entailment = e })) (no_choice x (suc n) es m (omega (arith, h)))
    where
      go : (o : Option Cert) → chosen_for (choices_all (placed_from x (suc n) es)) m ≡ None
          → chosen_for (as_choice n o ++ choices_all (placed_from x (suc n) es)) m ≡ None
      go None k = k
      go (Some c) k = ap (λ b. if b then Some c else chosen_for (choices_all (placed_from x (suc n) es)) m) (ne_eqb n m (λ i. omega (arith, h, i))) ∙ k

  number_from : (x n : ℕ) (es : List Entailment) (g : PlacedEntailment) → Among (placed_from x n es) g → n ≤ g.number
  number_from x n [] g m = absurd m
  number_from x n (e ∷ es) g (inl i) = let k : n ≡ g.number = ap (λ h. h.number) i in omega (arith, k)
  number_from x n (e ∷ es) g (inr m) = omega (arith, number_from x (suc n) es g m)

  chosen_is : (x n : ℕ) (es : List Entailment) (g : PlacedEntailment) → Among (placed_from x n es) g
      → chosen_for (choices_all (placed_from x n es)) g.number ≡ found_for depth body g
  chosen_is x n [] g m = absurd m
  chosen_is x n (e ∷ es) g (inl i) =
      subst (λ h. chosen_for (choices_all (placed_from x n (e ∷ es))) h.number ≡ found_for depth body h) i
      (go (found_for depth body (record { place = x; number = n; entailment = e })) (no_choice x (suc n) es n (omega arith)))
    where
      go : (o : Option Cert) → chosen_for (choices_all (placed_from x (suc n) es)) n ≡ None → chosen_for (as_choice n o ++ choices_all (placed_from x (suc n) es)) n ≡ o
      go None k = k
      go (Some c) k = ap (λ b. if b then Some c else chosen_for (choices_all (placed_from x (suc n) es)) n) (eq-eqb n n refl)
  chosen_is x n (e ∷ es) g (inr m) =
      go (found_for depth body (record { place = x; number = n; entailment = e })) (number_from x (suc n) es g m) ∙ chosen_is x (suc n) es g m
    where
      go : (o : Option Cert) → suc n ≤ g.number
          → chosen_for (as_choice n o ++ choices_all (placed_from x (suc n) es)) g.number ≡ chosen_for (choices_all (placed_from x (suc n) es)) g.number
      go None k = refl
      go (Some c) k =
          ap (λ b. if b then Some c else chosen_for (choices_all (placed_from x (suc n) es)) g.number) (ne_eqb n g.number (λ i. omega (arith, k, i)))

  rising : (x n : ℕ) (es : List Entailment) (m : ℕ) → m < n → AreRisingAbove m (map (λ c. c.0) (choices_all (placed_from x n es)))
  rising x n [] m h = tt
  rising x n (e ∷ es) m h =
      go (found_for depth body (record { place = x; number = n; entailment = e })) (rising x (suc n) es m (omega (arith, h))) (rising x (suc n) es n (omega arith))
    where
      go : (o : Option Cert) → AreRisingAbove m (map (λ c. c.0) (choices_all (placed_from x (suc n) es))) → AreRisingAbove n (map (λ c. c.0) (choices_all (placed_from x (suc n) es)))
          → AreRisingAbove m (map (λ c. c.0) (as_choice n o ++ choices_all (placed_from x (suc n) es)))
      go None k l = k
      go (Some c) k l = (h, l)

-- the places of the statements of each thread differ
pub places_differ : (p : Program) → IsWellFormed p → (t : ℕ) → IsTrue (are_distinct (◌==◌) (places (numbered p t).body))
places_differ p formed t =
    elim (cases_lt t (length p.threads)) [
      | inl h ↦ (formed.bodies t no_thread h).places_differ
      | inr h ↦ subst (λ d. IsTrue (are_distinct (◌==◌) (places d.body))) (sym (get_or_past p.threads t no_thread h)) refl
    ]

module _ (depth : ℕ) (p : Program) (formed : IsWellFormed p) (t : ℕ) where
  chosen_is_found : (g : PlacedEntailment) → Among (thread_entailments p t) g → chosen_for (choices depth p t g.place) g.number ≡ found_for depth (numbered p t).body g
  chosen_is_found g m =
      let made = thread_numbered p t (places_differ p formed t) g.place in
      let k : Among (placed_from g.place 1 made.0) g = subst (λ gs. Among gs g) made.1 (among_at g.place (thread_entailments p t) g m refl) in
      ap (λ cs. chosen_for cs g.number)
      (choices_at depth (numbered p t).body g.place (thread_entailments p t) ∙ ap (choices_all depth (numbered p t).body) made.1)
      ∙ chosen_is depth (numbered p t).body g.place 1 made.0 g k

  pub choices_rise : (x : ℕ) → AreRisingAbove 0 (map (λ c. c.0) (choices depth p t x))
  choices_rise x =
      let made = thread_numbered p t (places_differ p formed t) x in
      subst (λ cs. AreRisingAbove 0 (map (λ c. c.0) cs))
      (sym (choices_at depth (numbered p t).body x (thread_entailments p t) ∙ ap (choices_all depth (numbered p t).body) made.1))
      (rising depth (numbered p t).body x 1 made.0 0 (omega arith))

-- Proofs at places ---------------------------------------------------------------------------------------------

abbrev has_place : List (ℕ × List Proof) → ℕ → Bool
has_place rs x = list_any (λ r. r.0 == x) rs

abbrev changed : (ℕ → List (ℕ × Cert)) → ℕ × List Proof → ℕ × List Proof
changed chosen r = (r.0, with_certs (chosen r.0) r.1)

among_changed : (chosen : ℕ → List (ℕ × Cert)) (rs : List (ℕ × List Proof)) (x : ℕ) → has_place rs x ≡ true
    → proofs_among (map (changed chosen) rs) x ≡ with_certs (chosen x) (proofs_among rs x)
among_changed chosen [] x h = absurd (true≢false (sym h))
among_changed chosen (r ∷ rs) x h = go (r.0 == x) refl h (among_changed chosen rs x)
  where
    go : (b : Bool) → (r.0 == x) ≡ b → (b || has_place rs x) ≡ true
        → (has_place rs x ≡ true → proofs_among (map (changed chosen) rs) x ≡ with_certs (chosen x) (proofs_among rs x))
        → (if b then with_certs (chosen r.0) r.1 else proofs_among (map (changed chosen) rs) x) ≡ with_certs (chosen x) (if b then r.1 else proofs_among rs x)
    go true e k rest = ap (λ y. with_certs (chosen y) r.1) (eqb-true r.0 x e)
    go false e k rest = rest k

module _ (chosen : ℕ → List (ℕ × Cert)) where
  mutual
    within_put_in : (c : Stm) → proofs_within (put_in_stm chosen c) ≡ map (changed chosen) (proofs_within c)
    within_put_in (branch e a b join) =
        (λ i. placed_put_in a i ++ placed_put_in b i) ∙ sym (map-append (changed chosen) (placed_proofs a) (placed_proofs b))
    within_put_in (loop e inv b) = placed_put_in b
    within_put_in _ = refl

    placed_put_in : (b : Block) → placed_proofs (put_in chosen b) ≡ map (changed chosen) (placed_proofs b)
    placed_put_in done = refl
    placed_put_in (more at c proofs b) =
        ap (λ rs. (at, with_certs (chosen at) proofs) ∷ rs)
        ((λ i. within_put_in c i ++ placed_put_in b i) ∙ sym (map-append (changed chosen) (proofs_within c) (placed_proofs b)))

mutual
  places_within_are : (c : Stm) → map (λ r. r.0) (proofs_within c) ≡ places_within c
  places_within_are (branch e a b join) = map-append (λ r. r.0) (placed_proofs a) (placed_proofs b) ∙ (λ i. places_are a i ++ places_are b i)
  places_within_are (loop e inv b) = places_are b
  places_within_are _ = refl

  places_are : (b : Block) → map (λ r. r.0) (placed_proofs b) ≡ places b
  places_are done = refl
  places_are (more at c proofs b) =
      ap (λ xs. at ∷ xs) (map-append (λ r. r.0) (proofs_within c) (placed_proofs b) ∙ (λ i. places_within_are c i ++ places_are b i))

turned : (x y : ℕ) → (x == y) ≡ (y == x)
turned x y = go (x == y) refl
  where
    go : (b : Bool) → (x == y) ≡ b → b ≡ (y == x)
    go true e = sym (eq-eqb y x (sym (eqb-true x y e)))
    go false e = sym (ne_eqb y x (λ i. true≢false (sym (eq-eqb x y (sym i)) ∙ e)))

has_place_is : (x : ℕ) (rs : List (ℕ × List Proof)) → has_place rs x ≡ is_in x (map (λ r. r.0) rs)
has_place_is x [] = refl
has_place_is x (r ∷ rs) = λ i. turned r.0 x i || has_place_is x rs i

among_none : (rs : List (ℕ × List Proof)) (x : ℕ) → has_place rs x ≡ false → proofs_among rs x ≡ []
among_none [] x h = refl
among_none (r ∷ rs) x h = go (r.0 == x) h (among_none rs x)
  where
    go : (b : Bool) → (b || has_place rs x) ≡ false → (has_place rs x ≡ false → proofs_among rs x ≡ []) → (if b then r.1 else proofs_among rs x) ≡ []
    go true k rest = absurd (true≢false k)
    go false k rest = rest k

changed_none : (chosen : ℕ → List (ℕ × Cert)) (rs : List (ℕ × List Proof)) (x : ℕ) → has_place rs x ≡ false → proofs_among (map (changed chosen) rs) x ≡ []
changed_none chosen [] x h = refl
changed_none chosen (r ∷ rs) x h = go (r.0 == x) h (changed_none chosen rs x)
  where
    go : (b : Bool) → (b || has_place rs x) ≡ false → (has_place rs x ≡ false → proofs_among (map (changed chosen) rs) x ≡ [])
        → (if b then with_certs (chosen r.0) r.1 else proofs_among (map (changed chosen) rs) x) ≡ []
    go true k rest = absurd (true≢false k)
    go false k rest = rest k

-- the proofs of each statement have what is chosen for them
pub proofs_with : (depth : ℕ) (p : Program) (t x : ℕ) → proofs_at (numbered (annotated depth p) t).body x ≡ with_certs (choices depth p t x) (proofs_at (numbered p t).body x)
proofs_with depth p t x =
    ap (λ d. proofs_at d.body x) (numbered_put_in (choices depth p) p t) ∙ ap (λ rs. proofs_among rs x) (placed_put_in (choices depth p t) (numbered p t).body)
    ∙ go (has_place (placed_proofs (numbered p t).body) x) refl
  where
    go : (b : Bool) → has_place (placed_proofs (numbered p t).body) x ≡ b
        → proofs_among (map (changed (choices depth p t)) (placed_proofs (numbered p t).body)) x ≡ with_certs (choices depth p t x) (proofs_at (numbered p t).body x)
    go true e = among_changed (choices depth p t) (placed_proofs (numbered p t).body) x e
    go false e =
        let none : is_in x (places (numbered p t).body) ≡ false =
        sym (has_place_is x (placed_proofs (numbered p t).body) ∙ ap (is_in x) (places_are (numbered p t).body)) ∙ e in
        let nothing : choices depth p t x ≡ [] =
        choices_at depth (numbered p t).body x (thread_entailments p t) ∙ ap (choices_all depth (numbered p t).body) (thread_elsewhere p t x none) in
        changed_none (choices depth p t) (placed_proofs (numbered p t).body) x e
        ∙ sym ((λ i. with_certs (nothing i) (proofs_at (numbered p t).body x)) ∙ ap (with_certs []) (among_none (placed_proofs (numbered p t).body) x e))

-- The annotated program ----------------------------------------------------------------------------------------

module _ (depth : ℕ) (p : Program) (formed : IsWellFormed p) (t : ℕ) where
  abbrev before : Block
  before = (numbered p t).body

  abbrev after : Block
  after = (numbered (annotated depth p) t).body

  cert_is : (g : PlacedEntailment) → Among (thread_entailments p t) g → cert_of after g ≡ unwrap_or (found_for depth before g) (cert_of before g)
  cert_is g m =
      ap (λ qs. cert_for qs g.number) (proofs_with depth p t g.place) ∙ certs_given (choices depth p t g.place) (proofs_at before g.place) g.number
      ∙ ap (λ o. unwrap_or o (cert_of before g)) (chosen_is_found depth p formed t g m)

  is_annotated : (g : PlacedEntailment) → Among (thread_entailments p t) g → IsAnnotated depth (proofs_at before g.place) (proofs_at after g.place) g
  is_annotated g m = (
    λ h. cert_is g m ∙ ap (λ b. unwrap_or (if b then None else searched depth g) (cert_of before g)) h,
    λ h. go (searched depth g) refl (cert_is g m ∙ ap (λ b. unwrap_or (if b then None else searched depth g) (cert_of before g)) h),
  )
    where
      go : (o : Option Cert) → searched depth g ≡ o → cert_of after g ≡ unwrap_or (searched depth g) (cert_of before g)
          → IsFound depth g.entailment.hyps g.entailment.goal (cert_of after g)
          ⊎ (HasNone depth g.entailment.hyps g.entailment.goal × (cert_of after g ≡ cert_of before g))
      go None e k = inr (told depth g.entailment.hyps g.entailment.goal (Ok None) (sym e), k ∙ ap (λ o. unwrap_or o (cert_of before g)) e)
      go (Some c) e k =
          let f = search_sound depth g.entailment.hyps g.entailment.goal c e in
          inl (subst (IsFound depth g.entailment.hyps g.entailment.goal) (sym (k ∙ ap (λ o. unwrap_or o (cert_of before g)) e))
          (record { in_class = f.passes; valid = rw f.free refl }))

  open_is : (g : PlacedEntailment) → Among (thread_entailments p t) g → not (is_proved_in after g) ≡ is_not_found depth before g
  open_is g m =
      ap (λ c. not (is_valid g.entailment.hyps g.entailment.goal c)) (cert_is g m) ∙ go (is_proved_in before g) refl (searched depth g) refl
    where
      go : (b : Bool) → is_proved_in before g ≡ b → (o : Option Cert) → searched depth g ≡ o
          → not (is_valid g.entailment.hyps g.entailment.goal (unwrap_or (if b then None else searched depth g) (cert_of before g))) ≡ (not b && is_none (searched depth g))
      go true e o i = ap not e
      go false e None i =
          ap (λ o. not (is_valid g.entailment.hyps g.entailment.goal (unwrap_or o (cert_of before g)))) i ∙ ap not e ∙ ap is_none (sym i)
      go false e (Some c) i =
          let f = search_sound depth g.entailment.hyps g.entailment.goal c i in
          ap (λ o. not (is_valid g.entailment.hyps g.entailment.goal (unwrap_or o (cert_of before g)))) i ∙ ap (λ r. not (is_none r)) f.free ∙ ap is_none (sym i)

each_member : (P : PlacedEntailment → Type 0) (gs : List PlacedEntailment) → ((g : PlacedEntailment) → Among gs g → P g) → All P gs
each_member P [] h = All-nil P
each_member P (g ∷ gs) h = All-cons P g gs (h g (inl refl)) (each_member P gs (λ k m. h k (inr m)))

pub all_annotated : (depth : ℕ) (p : Program) → IsWellFormed p → (t : ℕ)
    → All (λ g. IsAnnotated depth (proofs_at (numbered p t).body g.place) (proofs_at (numbered (annotated depth p) t).body g.place) g) (thread_entailments p t)
all_annotated depth p formed t = each_member _ (thread_entailments p t) (is_annotated depth p formed t)

-- What is chosen -----------------------------------------------------------------------------------------------

abbrev Each : (ℕ × Cert → Type 0) → List (ℕ × Cert) → Type 0
Each P [] = Unit {0}
Each P (c ∷ cs) = P c × Each P cs

each_all : (P : ℕ × Cert → Type 0) (cs : List (ℕ × Cert)) → Each P cs → All P cs
each_all P [] h = All-nil P
each_all P (c ∷ cs) h = All-cons P c cs h.0 (each_all P cs h.1)

-- what is chosen of some entailments is found for one of them
pub record IsOf (depth : ℕ) (body : Block) (gs : List PlacedEntailment) (place : ℕ) (choice : ℕ × Cert) : Type 0 where
  of : PlacedEntailment
  listed : Contains gs of
  place_is : of.place ≡ place
  number_is : of.number ≡ choice.0
  invalid : is_proved_in body of ≡ false
  found : searched depth of ≡ Some choice.1

further : {depth : ℕ} {body : Block} {gs : List PlacedEntailment} {place : ℕ} (g : PlacedEntailment) (c : ℕ × Cert) → IsOf depth body gs place c → IsOf depth body (g ∷ gs) place c
further g c m = record {
  of = m.of;
  listed = Contains-append_right (g ∷ []) _ m.of m.listed;
  place_is = m.place_is;
  number_is = m.number_is;
  invalid = m.invalid;
  found = m.found;
}

all_of : (depth : ℕ) (body : Block) (gs : List PlacedEntailment) (x : ℕ) → Each (IsOf depth body gs x) (choices_among depth body gs x)
all_of depth body [] x = tt
all_of depth body (g ∷ gs) x = go (g.place == x) refl (more (choices_among depth body gs x) (all_of depth body gs x))
  where
    more : (cs : List (ℕ × Cert)) → Each (IsOf depth body gs x) cs → Each (IsOf depth body (g ∷ gs) x) cs
    more [] h = tt
    more (c ∷ cs) h = (further g c h.0, more cs h.1)

    one : (o : Option Cert) → g.place ≡ x → (b : Bool) → is_proved_in body g ≡ b → (if b then None else searched depth g) ≡ o
        → Each (IsOf depth body (g ∷ gs) x) (choices_among depth body gs x)
        → Each (IsOf depth body (g ∷ gs) x) (as_choice g.number o ++ choices_among depth body gs x)
    one None i b v e h = h
    one (Some c) i true v e h = cc
    one (Some c) i false v e h =
        (record { of = g; listed = Contains-append_left (g ∷ []) gs g (Contains-push [] g); place_is = i; number_is = refl; invalid = v; found = e }, h)

    go : (b : Bool) → (g.place == x) ≡ b → Each (IsOf depth body (g ∷ gs) x) (choices_among depth body gs x)
        → Each (IsOf depth body (g ∷ gs) x) ((if b then as_choice g.number (found_for depth body g) else []) ++ choices_among depth body gs x)
    go true e h = one (found_for depth body g) (eqb-true g.place x e) (is_proved_in body g) refl refl h
    go false e h = h

pub choices_are : (depth : ℕ) (p : Program) (t x : ℕ) → All (IsChoice depth p t x) (choices depth p t x)
choices_are depth p t x = each_all _ (choices depth p t x) (told_of (choices depth p t x) (all_of depth (numbered p t).body (thread_entailments p t) x))
  where
    told_of : (cs : List (ℕ × Cert)) → Each (IsOf depth (numbered p t).body (thread_entailments p t) x) cs → Each (IsChoice depth p t x) cs
    told_of [] h = tt
    told_of (c ∷ cs) h =
        (record { of = h.0.of; listed = h.0.listed; place_is = h.0.place_is; number_is = h.0.number_is; invalid = h.0.invalid; found = h.0.found }, told_of cs h.1)

-- What is open -------------------------------------------------------------------------------------------------

-- of members, a test may be another that says the same of them
filter_same : (f h : PlacedEntailment → Bool) (gs : List PlacedEntailment) → ((g : PlacedEntailment) → Among gs g → f g ≡ h g) → filter f gs ≡ filter h gs
filter_same f h [] e = refl
filter_same f h (g ∷ gs) e = λ i. cond (e g (inl refl) i) (g ∷ filter_same f h gs (λ k m. e k (inr m)) i) (filter_same f h gs (λ k m. e k (inr m)) i)

pub open_same : (depth : ℕ) (p : Program) → IsWellFormed p → (t : ℕ) → open_in_thread (annotated depth p) t ≡ not_found_in_thread depth p t
open_same depth p formed t =
    ap (filter (λ g. not (is_proved_in (numbered (annotated depth p) t).body g))) (put_in_same (choices depth p) p t)
    ∙ filter_same (λ g. not (is_proved_in (numbered (annotated depth p) t).body g)) (is_not_found depth (numbered p t).body) (thread_entailments p t)
    (open_is depth p formed t)

put_in_length : (chosen : (t place : ℕ) → List (ℕ × Cert)) (t : ℕ) (hs : List Thread) → length (put_in_threads chosen t hs) ≡ length hs
put_in_length chosen t [] = refl
put_in_length chosen t (h ∷ hs) = ap (λ n. suc n) (put_in_length chosen (suc t) hs)

flat_same : {X Y : Type 0} (f h : X → List Y) (xs : List X) → ((x : X) → f x ≡ h x) → flat_map f xs ≡ flat_map h xs
flat_same f h [] e = refl
flat_same f h (x ∷ xs) e = λ i. e x i ++ flat_same f h xs e i

pub unproved_are_not_found : (depth : ℕ) (p : Program) → IsWellFormed p → unproved depth p ≡ not_found depth p
unproved_are_not_found depth p formed =
    ap (λ n. flat_map (λ t. map (open_of t) (open_in_thread (annotated depth p) t)) (range_with_len 0 n)) (put_in_length (choices depth p) 0 p.threads)
    ∙ flat_same (λ t. map (open_of t) (open_in_thread (annotated depth p) t)) (λ t. map (open_of t) (not_found_in_thread depth p t)) (threads_of p)
    (λ t. ap (map (open_of t)) (open_same depth p formed t))
