-- What the calls of a plan leave.
use Rattle.std.proofs.Common.{◌≡◌, ◌≢◌, ◌⊎◌, ℕ, zero, suc, ◌+◌, ◌<◌, ◌≤◌, ◌==◌, List, [], ◌∷◌, length, get_or, set, Bool, true, false, cond, Option, Some, None, refl, sym, ◌∙◌, ap, subst, arith, IsTrue, inl, inr, ⊎_elim, slice_get, length-set, get_or-set_other, zero-add, le_refl, nat_le}
use Rattle.std.proofs.lemmas.Bool.{leb-true, le-leb, eqb-true, eq-eqb, both_ways}
use Rattle.std.proofs.lemmas.Option.{get_or_from_slice_get}
use Rattle.std.proofs.Math.Decide.{ℕ_discrete}
use Rattle.std.proofs.Math.ListN.{get_or-map}
use Rattle.regalloc.specs.Plan.{Plan, start, is_for, held_from, held, keep, spoil, stored, only, restrict, both, meet, add_free, free_among, below_seven, frees, part, room_below, room}
use Rattle.compiled_code.specs.Compiled.{part_register}

-- each record of Q is one of P
abbrev pub Below : Plan → Plan → Type 0
Below Q P = (j x : ℕ) → get_or Q j None ≡ Some x → get_or P j None ≡ Some x

pub below_trans : (P Q R : Plan) → Below P Q → Below Q R → Below P R
below_trans P Q R a b j x e = b j x (a j x e)

pub start_below : (P : Plan) → Below start P
start_below P zero x e = absurd cc
start_below P (suc zero) x e = absurd cc
start_below P (suc (suc zero)) x e = absurd cc
start_below P (suc (suc (suc zero))) x e = absurd cc
start_below P (suc (suc (suc (suc zero)))) x e = absurd cc
start_below P (suc (suc (suc (suc (suc zero))))) x e = absurd cc
start_below P (suc (suc (suc (suc (suc (suc zero)))))) x e = absurd cc
start_below P (suc (suc (suc (suc (suc (suc (suc zero))))))) x e = absurd cc
start_below P (suc (suc (suc (suc (suc (suc (suc (suc j)))))))) x e = absurd cc

-- Single calls ----------------------------------------------------------------------------------------------------

pub spoil_below : (P : Plan) (j : ℕ) → Below (spoil P j) P
spoil_below [] j i x e = e
spoil_below (o ∷ os) zero zero x e = absurd cc
spoil_below (o ∷ os) zero (suc i) x e = e
spoil_below (o ∷ os) (suc j) zero x e = e
spoil_below (o ∷ os) (suc j) (suc i) x e = spoil_below os j i x e

pub spoil_there : (P : Plan) (j : ℕ) → get_or (spoil P j) j None ≡ None
spoil_there [] j = refl
spoil_there (o ∷ os) zero = refl
spoil_there (o ∷ os) (suc j) = spoil_there os j

spoil_still : (P : Plan) (j i : ℕ) → get_or P i None ≡ None → get_or (spoil P j) i None ≡ None
spoil_still [] j i e = e
spoil_still (o ∷ os) zero zero e = refl
spoil_still (o ∷ os) zero (suc i) e = e
spoil_still (o ∷ os) (suc j) zero e = e
spoil_still (o ∷ os) (suc j) (suc i) e = spoil_still os j i e

pub kept_is : (P : Plan) (x r j y : ℕ) → get_or (keep P x r) j None ≡ Some y → (j ≡ r) × (y ≡ x) ⊎ (get_or P j None ≡ Some y)
kept_is [] x r j y e = inr e
kept_is (o ∷ os) x zero zero y e = inl (refl, cc)
kept_is (o ∷ os) x zero (suc j) y e = inr e
kept_is (o ∷ os) x (suc r) zero y e = inr e
kept_is (o ∷ os) x (suc r) (suc j) y e = ⊎_elim (λ k. inl (ap suc k.0, k.1)) (λ k. inr k) (kept_is os x r j y e)

pub stored_is : (P : Plan) (x j y : ℕ) → get_or (stored P x) j None ≡ Some y → (y ≢ x) × (get_or P j None ≡ Some y)
stored_is P x j y e = go (get_or P j None) refl (sym (get_or-map (λ o. cond (is_for x o) None o) P j None) ∙ e)
  where
    by : (z : ℕ) (b : Bool) → (z == x) ≡ b → ◌≡◌ {A = Option ℕ} (cond b None (Some z)) (Some y) → (y ≢ x) × (z ≡ y)
    by z true h e = absurd cc
    by z false h e = let s : z ≡ y = cc in ((λ k. absurd (both_ways (x == x) (subst (λ z. (z == x) ≡ false) (s ∙ k) h) (eq-eqb x x refl))), s)

    go : (o : Option ℕ) → get_or P j None ≡ o → cond (is_for x o) None o ≡ Some y → (y ≢ x) × (get_or P j None ≡ Some y)
    go None h e = absurd cc
    go (Some z) h e = let k = by z (z == x) refl e in (k.0, h ∙ ap Some k.1)

pub restricted_is : (st : ℕ → Bool) (P : Plan) (j y : ℕ) → get_or (restrict st P) j None ≡ Some y → (get_or P j None ≡ Some y) × IsTrue (st y)
restricted_is st P j y e = go (get_or P j None) refl (sym (get_or-map (only st) P j None) ∙ e)
  where
    by : (z : ℕ) (b : Bool) → st z ≡ b → ◌≡◌ {A = Option ℕ} (cond b (Some z) None) (Some y) → (z ≡ y) × IsTrue (st y)
    by z true h e = let s : z ≡ y = cc in (s, subst (λ z. IsTrue (st z)) s h)
    by z false h e = absurd cc

    go : (o : Option ℕ) → get_or P j None ≡ o → only st o ≡ Some y → (get_or P j None ≡ Some y) × IsTrue (st y)
    go None h e = absurd cc
    go (Some z) h e = let k = by z (st z) refl e in (h ∙ ap Some k.0, k.1)

-- a record of a stable variable is left
pub restrict_keeps : (st : ℕ → Bool) (P : Plan) (j y : ℕ) → get_or P j None ≡ Some y → IsTrue (st y) → get_or (restrict st P) j None ≡ Some y
restrict_keeps st P j y e s = get_or-map (only st) P j None ∙ ap (only st) e ∙ ap (λ b. cond b (Some y) None) s

both_is : (o q : Option ℕ) (y : ℕ) → both o q ≡ Some y → (o ≡ Some y) × (q ≡ Some y)
both_is None q y e = absurd cc
both_is (Some x) None y e = absurd cc
both_is (Some x) (Some z) y e = go (z == x) refl e
  where
    go : (b : Bool) → (z == x) ≡ b → ◌≡◌ {A = Option ℕ} (cond b (Some x) None) (Some y) → (Some x ≡ Some y) × (Some z ≡ Some y)
    go true h e = (e, ap Some (eqb-true z x h) ∙ e)
    go false h e = absurd cc

pub meet_is : (P Q : Plan) (j y : ℕ) → get_or (meet P Q) j None ≡ Some y → (get_or P j None ≡ Some y) × (get_or Q j None ≡ Some y)
meet_is [] Q j y e = absurd cc
meet_is (o ∷ os) [] j y e = absurd cc
meet_is (o ∷ os) (q ∷ qs) zero y e = both_is o q y e
meet_is (o ∷ os) (q ∷ qs) (suc j) y e = meet_is os qs j y e

pub meet_long : (P Q : Plan) (n : ℕ) → length P ≡ n → length Q ≡ n → length (meet P Q) ≡ n
meet_long [] Q n a b = a
meet_long (o ∷ os) [] n a b = absurd (let c : suc (length os) ≡ 0 = a ∙ sym b in cc)
meet_long (o ∷ os) (q ∷ qs) n a b = ap suc (meet_long os qs (length os) refl (let c : suc (length qs) ≡ suc (length os) = b ∙ sym a in cc)) ∙ a

-- Held ------------------------------------------------------------------------------------------------------------

held_from_is : (os : Plan) (j x s : ℕ) → held_from j os x ≡ Some s → (i : ℕ) × (s ≡ j + i) × (get_or os i None ≡ Some x)
held_from_is [] j x s e = absurd cc
held_from_is (o ∷ os) j x s e = go (is_for x o) refl e (λ e. held_from_is os (suc j) x s e)
  where
    same : (o : Option ℕ) → is_for x o ≡ true → o ≡ Some x
    same None h = absurd cc
    same (Some y) h = ap Some (eqb-true y x h)

    go : (b : Bool) → is_for x o ≡ b → cond b (Some j) (held_from (suc j) os x) ≡ Some s
        → (held_from (suc j) os x ≡ Some s → (i : ℕ) × (s ≡ suc j + i) × (get_or os i None ≡ Some x)) → (i : ℕ) × (s ≡ j + i) × (get_or (o ∷ os) i None ≡ Some x)
    go true h e ih = (0, (let k : j ≡ s = cc in omega arith), same o h)
    go false h e ih = let k = ih e in (suc k.0, (let h = k.1 in omega arith), k.2)

pub held_is : (P : Plan) (x s : ℕ) → held P x ≡ Some s → get_or P s None ≡ Some x
held_is P x s e = let k = held_from_is P 0 x s e in subst (λ i. get_or P i None ≡ Some x) (sym (k.1 ∙ zero-add k.0)) k.2

held_from_not : (os : Plan) (j x i : ℕ) → held_from j os x ≡ None → get_or os i None ≡ Some x → ⊥
held_from_not [] j x i e h = cc
held_from_not (o ∷ os) j x i e h = go (is_for x o) refl e (λ i e h. held_from_not os (suc j) x i e h) i h
  where
    go : (b : Bool) → is_for x o ≡ b → cond b (Some j) (held_from (suc j) os x) ≡ None
        → ((i : ℕ) → held_from (suc j) os x ≡ None → get_or os i None ≡ Some x → ⊥) → (i : ℕ) → get_or (o ∷ os) i None ≡ Some x → ⊥
    go true n e ih i h = cc
    go false n e ih zero h = absurd (both_ways (x == x) (sym (ap (is_for x) h) ∙ n) (eq-eqb x x refl))
    go false n e ih (suc i) h = ih i e h

pub held_not : (P : Plan) (x i : ℕ) → held P x ≡ None → get_or P i None ≡ Some x → ⊥
held_not P x i e h = held_from_not P 0 x i e h

-- Rising lists of registers ---------------------------------------------------------------------------------------

abbrev pub Between : ℕ → ℕ → List ℕ → Type 0
Between k n [] = Unit {0}
Between k n (j ∷ js) = (k ≤ j) × (j < n) × Between (suc j) n js

between_less : (k l n : ℕ) (js : List ℕ) → k ≤ l → Between l n js → Between k n js
between_less k l n [] h b = tt
between_less k l n (j ∷ js) h b = (let c = b.0 in omega arith, b.1, b.2)

between_free : (P : Plan) (k n : ℕ) (js : List ℕ) → Between k n js → Between k n (free_among P js)
between_free P k n [] b = tt
between_free P k n (j ∷ js) b = go (get_or P j None) (between_free P (suc j) n js b.2)
  where
    go : (o : Option ℕ) → Between (suc j) n (free_among P js) → Between k n (add_free o j (free_among P js))
    go None ih = (b.0, b.1, ih)
    go (Some x) ih = between_less k (suc j) n (free_among P js) (let c = b.0 in omega arith) ih

between_get : (k n : ℕ) (js : List ℕ) (d : ℕ) → Between k n js → d < length js → (k ≤ get_or js d 0) × (get_or js d 0 < n)
between_get k n [] d b h = absurd (omega arith)
between_get k n (j ∷ js) zero b h = (b.0, b.1)
between_get k n (j ∷ js) (suc d) b h = let c = between_get (suc j) n js d b.2 (omega arith) in (let e = b.0 in let f = c.0 in omega arith, c.1)

between_apart : (k n : ℕ) (js : List ℕ) (d e : ℕ) → Between k n js → d < e → e < length js → get_or js d 0 < get_or js e 0
between_apart k n [] d e b h l = absurd (omega arith)
between_apart k n (j ∷ js) d zero b h l = absurd (omega arith)
between_apart k n (j ∷ js) zero (suc e) b h l = let c = (between_get (suc j) n js e b.2 (omega arith)).0 in omega arith
between_apart k n (j ∷ js) (suc d) (suc e) b h l = between_apart (suc j) n js d e b.2 (omega arith) (omega arith)

free_nothing : (P : Plan) (js : List ℕ) (d : ℕ) → d < length (free_among P js) → get_or P (get_or (free_among P js) d 0) None ≡ None
free_nothing P [] d h = absurd (omega arith)
free_nothing P (j ∷ js) d h = go (get_or P j None) refl (λ d h. free_nothing P js d h) d h
  where
    go : (o : Option ℕ) → get_or P j None ≡ o → ((d : ℕ) → d < length (free_among P js) → get_or P (get_or (free_among P js) d 0) None ≡ None)
        → (d : ℕ) → d < length (add_free o j (free_among P js)) → get_or P (get_or (add_free o j (free_among P js)) d 0) None ≡ None
    go None e ih zero h = e
    go None e ih (suc d) h = ih d (omega arith)
    go (Some x) e ih d h = ih d h

pub seven : Between 0 7 below_seven
seven = (omega arith, omega arith, (omega arith, omega arith, (omega arith, omega arith, (omega arith, omega arith, (omega arith, omega arith, (omega arith, omega arith, (omega arith, omega arith, tt)))))))

frees_between : (P : Plan) → Between 0 7 (frees P)
unfolding frees
frees_between P = between_free P 0 7 below_seven seven

pub reg_low : (P : Plan) (d : ℕ) → d < length (frees P) → part_register P d < 7
reg_low P d h = (between_get 0 7 (frees P) d (frees_between P) h).1

pub reg_apart : (P : Plan) (d e : ℕ) → d < e → e < length (frees P) → part_register P d < part_register P e
reg_apart P d e h l = between_apart 0 7 (frees P) d e (frees_between P) h l

pub reg_free : (P : Plan) (d : ℕ) → d < length (frees P) → get_or P (part_register P d) None ≡ None
unfolding frees
reg_free P d h = free_nothing P below_seven d h

-- Counting free registers -----------------------------------------------------------------------------------------

free_other : (P : Plan) (r : ℕ) (o : Option ℕ) (k n : ℕ) (js : List ℕ) → Between k n js → r < k → free_among (set P r o) js ≡ free_among P js
free_other P r o k n [] b h = refl
free_other P r o k n (j ∷ js) b h =
    let c = b.0 in
    ap (λ q. add_free q j (free_among (set P r o) js)) (get_or-set_other P r j o None (omega arith))
    ∙ ap (add_free (get_or P j None) j) (free_other P r o (suc j) n js b.2 (omega arith))

at_most_one : (o q : Option ℕ) (j : ℕ) (js : List ℕ) → length (add_free o j js) ≤ suc (length (add_free q j js))
at_most_one None None j js = omega arith
at_most_one None (Some x) j js = le_refl _
at_most_one (Some x) None j js = omega arith
at_most_one (Some x) (Some y) j js = omega arith

free_set : (P : Plan) (r : ℕ) (o : Option ℕ) (k n : ℕ) (js : List ℕ) → Between k n js → length (free_among P js) ≤ suc (length (free_among (set P r o) js))
free_set P r o k n [] b = omega arith
free_set P r o k n (j ∷ js) b = go (ℕ_discrete j r) (free_set P r o (suc j) n js b.2)
  where
    longer : (q : Option ℕ) (a c : List ℕ) → length a ≤ suc (length c) → length (add_free q j a) ≤ suc (length (add_free q j c))
    longer None a c h = omega arith
    longer (Some x) a c h = h

    go : Dec (j ≡ r) → length (free_among P js) ≤ suc (length (free_among (set P r o) js))
        → length (add_free (get_or P j None) j (free_among P js)) ≤ suc (length (add_free (get_or (set P r o) j None) j (free_among (set P r o) js)))
    go (yes e) ih =
        subst (λ a. length (add_free (get_or P j None) j (free_among P js)) ≤ suc (length (add_free (get_or (set P r o) j None) j a)))
        (sym (free_other P r o (suc j) n js b.2 (omega arith))) (at_most_one (get_or P j None) (get_or (set P r o) j None) j (free_among P js))
    go (no e) ih =
        subst (λ q. length (add_free (get_or P j None) j (free_among P js)) ≤ suc (length (add_free q j (free_among (set P r o) js))))
        (sym (get_or-set_other P r j o None e)) (longer (get_or P j None) (free_among P js) (free_among (set P r o) js) ih)

pub frees_keep : (P : Plan) (x r : ℕ) → length (frees P) ≤ suc (length (frees (keep P x r)))
unfolding frees
frees_keep P x r = free_set P r (Some x) 0 7 below_seven seven

free_above : (P : Plan) (r : ℕ) (o : Option ℕ) (k n : ℕ) (js : List ℕ) → Between k n js → n ≤ r → free_among (set P r o) js ≡ free_among P js
free_above P r o k n [] b h = refl
free_above P r o k n (j ∷ js) b h =
    let c = b.1 in
    ap (λ q. add_free q j (free_among (set P r o) js)) (get_or-set_other P r j o None (omega arith))
    ∙ ap (add_free (get_or P j None) j) (free_above P r o (suc j) n js b.2 h)

-- register 7 is none of them
pub frees_spoil : (P : Plan) → frees (spoil P 7) ≡ frees P
unfolding frees
frees_spoil P = free_above P 7 None 0 7 below_seven seven (le_refl 7)

pub part_in : (P : Plan) (w r : ℕ) → part P w ≡ Some r → (w < length (frees P)) × (r ≡ part_register P w)
part_in P w r e = (go (frees P) w e, sym (get_or_from_slice_get (frees P) w r 0 e))
  where
    go : (xs : List ℕ) (w : ℕ) → slice_get xs w ≡ Some r → w < length xs
    go [] w e = absurd cc
    go (x ∷ xs) zero e = omega arith
    go (x ∷ xs) (suc w) e = let k = go xs w e in omega arith

-- Room ------------------------------------------------------------------------------------------------------------

room_below_below : (j : ℕ) (P : Plan) (n : ℕ) → Below (room_below j P n) P
room_below_below zero P n i x e = e
room_below_below (suc j) P n i x e = go (nat_le n (length (frees P))) e (room_below_below j (spoil P j) n)
  where
    go : (b : Bool) → get_or (cond b P (room_below j (spoil P j) n)) i None ≡ Some x → Below (room_below j (spoil P j) n) (spoil P j) → get_or P i None ≡ Some x
    go true e ih = e
    go false e ih = spoil_below P j i x (ih i x e)

room_below_long : (j : ℕ) (P : Plan) (n : ℕ) → length (room_below j P n) ≡ length P
room_below_long zero P n = refl
room_below_long (suc j) P n = go (nat_le n (length (frees P))) (room_below_long j (spoil P j) n)
  where
    go : (b : Bool) → length (room_below j (spoil P j) n) ≡ length (spoil P j) → length (cond b P (room_below j (spoil P j) n)) ≡ length P
    go true ih = refl
    go false ih = ih ∙ length-set P j None

all_free : (P : Plan) (js : List ℕ) → ((i : ℕ) → i < 7 → get_or P i None ≡ None) → (k : ℕ) → Between k 7 js → length (free_among P js) ≡ length js
all_free P [] f k b = refl
all_free P (j ∷ js) f k b = ap (λ o. length (add_free o j (free_among P js))) (f j b.1) ∙ ap suc (all_free P js f (suc j) b.2)

room_below_has : (j : ℕ) (P : Plan) (n : ℕ) → n ≤ 7 → ((i : ℕ) → j ≤ i → i < 7 → get_or P i None ≡ None) → n ≤ length (frees (room_below j P n))
unfolding frees
room_below_has zero P n h f = let e : length (free_among P below_seven) ≡ 7 = all_free P below_seven (λ i k. f i (omega arith) k) 0 seven in omega arith
room_below_has (suc j) P n h f = go (nat_le n (length (frees P))) refl (room_below_has j (spoil P j) n h)
  where
    still : (i : ℕ) → j ≤ i → i < 7 → Dec (i ≡ j) → get_or (spoil P j) i None ≡ None
    still i a b (yes e) = ap (λ i. get_or (spoil P j) i None) e ∙ spoil_there P j
    still i a b (no e) = spoil_still P j i (f i (omega arith) b)

    go : (b : Bool) → nat_le n (length (frees P)) ≡ b
        → (((i : ℕ) → j ≤ i → i < 7 → get_or (spoil P j) i None ≡ None) → n ≤ length (frees (room_below j (spoil P j) n)))
        → n ≤ length (frees (cond b P (room_below j (spoil P j) n)))
    go true e ih = leb-true n (length (frees P)) e
    go false e ih = ih (λ i a b. still i a b (ℕ_discrete i j))

pub room_gives : (P : Plan) (n : ℕ) → Below (room P n) P
unfolding room
room_gives P n = room_below_below 7 P n

pub room_long : (P : Plan) (n : ℕ) → length (room P n) ≡ length P
unfolding room
room_long P n = room_below_long 7 P n

pub room_has : (P : Plan) (n : ℕ) → n ≤ 7 → n ≤ length (frees (room P n))
unfolding room
room_has P n h = room_below_has 7 P n h (λ i a b. absurd (omega arith))

-- where there is room, nothing is given up
pub room_same : (P : Plan) (n : ℕ) → n ≤ length (frees P) → room P n ≡ P
unfolding room
room_same P n h = ap (λ b. cond b P (room_below 6 (spoil P 6) n)) (le-leb n (length (frees P)) h)
