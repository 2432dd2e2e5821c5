-- Bodies with few variables and narrow expressions: no record of a stable variable is given up, so each is loaded once.
use Rattle.std.proofs.Common.{◌≡◌, ◌≢◌, ◌⊎◌, ℕ, suc, ◌+◌, ◌<◌, ◌≤◌, ◌==◌, ◌&&◌, not, List, [], ◌∷◌, ◌++◌, length, get_or, map, Bool, true, false, cond, if◌then◌else◌, Option, Some, None, refl, sym, ◌∙◌, ap, subst, arith, IsTrue, inl, inr, ⊎_elim, length-set, get_or-set_same, get_or-set_other, eq-eqb, eqb-true}
use Rattle.std.proofs.Math.Decide.{ℕ_discrete}
use Rattle.std.proofs.Math.ListN.{get_or-map}
use Rattle.std.proofs.lemmas.Bool.{or_left, or_right, or_cases, false_from_ne_true, both_ways}
use Rattle.std.proofs.lemmas.List.{length-map}
use Rattle.std.proofs.lemmas.List.Recursion.{is_count_by}
use Rattle.std.proofs.lemmas.Option.{slice_get-get_or}
use Rattle.cov_expr.specs.Term.{Term, const, var, neg, bin}
use Rattle.cov_expr.specs.Trees.{has_number, mentions, occurrences, width}
use Rattle.cov_expr.proofs.Trees.{occurs}
use Rattle.regalloc.specs.Plan.{Plan, start, is_for, held, keep, spoil, stored, free_among, add_free, below_seven, frees, part}
use Rattle.compiled_code.specs.Compiled.{line, weigh, part_register, var_instr, unstable_of, load_unstable, term_instrs, fetch_into, fetch_at, fetched_plan, load_into, fetch_plan, fetch_instrs, expr_room, expr_plan, expr_instrs, store_plan}
use Rattle.compiled_code.specs.LoadBound.{is_load_of, loads_of}
use Rattle.compiled_code.proofs.Gen.{FoundIn, found, fetch_some}
use Rattle.compiled_code.proofs.Plans.{Below, start_below, spoil_below, kept_is, stored_is, held_is, held_not, Between, seven, reg_low, reg_free, part_in, room_same}
use Rattle.risc_machine.specs.declared.parts.Instr.{Instr}
use Rattle.risc_machine.specs.declared.parts.Instr.TheVariants.{Bin}
use Rattle.risc_machine.specs.declared.parts.Line.{Line}

abbrev pub IsIn : List ℕ → ℕ → Type 0
IsIn S x = IsTrue (has_number S x)

-- Distinct lists --------------------------------------------------------------------------------------------------

abbrev without : ℕ → List ℕ → List ℕ
without x [] = []
without x (y ∷ ys) = if y == x then without x ys else y ∷ without x ys

still_in : (x : ℕ) (ys : List ℕ) (z : ℕ) → z ≢ x → IsIn ys z → IsIn (without x ys) z
still_in x [] z n h = h
still_in x (y ∷ ys) z n h = go (y == x) refl (or_cases (y == z) (has_number ys z) h) (still_in x ys z n)
  where
    go : (b : Bool) → (y == x) ≡ b → IsTrue (y == z) ⊎ IsIn ys z → (IsIn ys z → IsIn (without x ys) z) → IsIn (if b then without x ys else y ∷ without x ys) z
    go true e (inl c) f = absurd (n (sym (eqb-true y z c) ∙ eqb-true y x e))
    go true e (inr c) f = f c
    go false e (inl c) f = or_left (y == z) _ c
    go false e (inr c) f = or_right (y == z) _ (f c)

abbrev Distinct : List ℕ → Type 0
Distinct [] = Unit {0}
Distinct (x ∷ xs) = (IsIn xs x → ⊥) × Distinct xs

without_short : (x : ℕ) (ys : List ℕ) → length (without x ys) ≤ length ys
without_short x [] = omega arith
without_short x (y ∷ ys) = go (y == x) (without_short x ys)
  where
    go : (b : Bool) → length (without x ys) ≤ length ys → length ((if b then without x ys else y ∷ without x ys)) ≤ suc (length ys)
    go true h = omega arith
    go false h = omega arith

without_shorter : (x : ℕ) (ys : List ℕ) → IsIn ys x → suc (length (without x ys)) ≤ length ys
without_shorter x [] h = cc
without_shorter x (y ∷ ys) h = go (y == x) refl (without_shorter x ys) (without_short x ys) (or_cases (y == x) (has_number ys x) h)
  where
    go : (b : Bool) → (y == x) ≡ b → (IsIn ys x → suc (length (without x ys)) ≤ length ys) → length (without x ys) ≤ length ys
        → IsTrue (y == x) ⊎ IsIn ys x → suc (length ((if b then without x ys else y ∷ without x ys))) ≤ suc (length ys)
    go true e f k h = omega arith
    go false e f k (inl h) = absurd (both_ways (y == x) e h)
    go false e f k (inr h) = let n = f h in omega arith

pigeon : (xs ys : List ℕ) → Distinct xs → ((z : ℕ) → IsIn xs z → IsIn ys z) → length xs ≤ length ys
pigeon [] ys d f = omega arith
pigeon (x ∷ xs) ys d f =
    let a = without_shorter x ys (f x (or_left _ _ (eq-eqb x x refl))) in
    let b = pigeon xs (without x ys) d.1 (λ z h. still_in x ys z (λ e. d.0 (subst (λ z. IsIn xs z) e h)) (f z (or_right (x == z) _ h))) in
    omega arith

-- What a plan keeps -----------------------------------------------------------------------------------------------

abbrev add_kept : Option ℕ → List ℕ → List ℕ
add_kept None xs = xs
add_kept (Some x) xs = x ∷ xs

abbrev kept_among : Plan → List ℕ → List ℕ
kept_among P [] = []
kept_among P (j ∷ js) = add_kept (get_or P j None) (kept_among P js)

free_and_kept : (P : Plan) (js : List ℕ) → length (free_among P js) + length (kept_among P js) ≡ length js
free_and_kept P [] = refl
free_and_kept P (j ∷ js) = go (get_or P j None) (free_and_kept P js)
  where
    go : (o : Option ℕ) → length (free_among P js) + length (kept_among P js) ≡ length js
        → length (add_free o j (free_among P js)) + length (add_kept o (kept_among P js)) ≡ suc (length js)
    go None h = omega arith
    go (Some x) h = omega arith

in_kept : (P : Plan) (k n : ℕ) (js : List ℕ) (x : ℕ) → Between k n js → IsIn (kept_among P js) x → (j : ℕ) × (k ≤ j) × (get_or P j None ≡ Some x)
in_kept P k n [] x b h = cc
in_kept P k n (j ∷ js) x b h = go (get_or P j None) refl (λ i. in_kept P (suc j) n js x b.2 i) h
  where
    later : (IsIn (kept_among P js) x → (j' : ℕ) × (suc j ≤ j') × (get_or P j' None ≡ Some x)) → IsIn (kept_among P js) x → (j : ℕ) × (k ≤ j) × (get_or P j None ≡ Some x)
    later f h = let r = f h in (r.0, (let a = r.1 in let c = b.0 in omega arith), r.2)

    go : (o : Option ℕ) → get_or P j None ≡ o → (IsIn (kept_among P js) x → (j' : ℕ) × (suc j ≤ j') × (get_or P j' None ≡ Some x)) → IsIn (add_kept o (kept_among P js)) x
        → (j : ℕ) × (k ≤ j) × (get_or P j None ≡ Some x)
    go None e f h = later f h
    go (Some y) e f h = ⊎_elim (λ c. (j, b.0, e ∙ ap Some (eqb-true y x c))) (λ c. later f c) (or_cases (y == x) (has_number (kept_among P js) x) h)

abbrev pub Has : Plan → ℕ → Type 0
Has P x = (j : ℕ) × (get_or P j None ≡ Some x)

pub record Fit (S : List ℕ) (P : Plan) : Type 0 where
  pub long : length P ≡ 8
  pub low : (j x : ℕ) → get_or P j None ≡ Some x → j < 7
  pub one : (i j x : ℕ) → get_or P i None ≡ Some x → get_or P j None ≡ Some x → i ≡ j
  pub among : (j x : ℕ) → get_or P j None ≡ Some x → IsIn S x

distinct_kept : (S : List ℕ) (P : Plan) (k n : ℕ) (js : List ℕ) → Fit S P → Between k n js → Distinct (kept_among P js)
distinct_kept S P k n [] f b = tt
distinct_kept S P k n (j ∷ js) f b = go (get_or P j None) refl (distinct_kept S P (suc j) n js f b.2)
  where
    go : (o : Option ℕ) → get_or P j None ≡ o → Distinct (kept_among P js) → Distinct (add_kept o (kept_among P js))
    go None e d = d
    go (Some x) e d = ((λ h. let r = in_kept P (suc j) n js x b.2 h in let s = f.one j r.0 x e r.2 in let a = r.1 in absurd (omega arith)), d)

-- at most four are fetched_plan, so three are free, and four where one more of the four isn't kept
pub three_free : (S : List ℕ) (P : Plan) → Fit S P → length S ≤ 4 → 3 ≤ length (frees P)
unfolding frees
three_free S P f h =
    let a = free_and_kept P below_seven in
    let b = pigeon (kept_among P below_seven) S (distinct_kept S P 0 7 below_seven f seven)
    (λ z i. let r = in_kept P 0 7 below_seven z seven i in f.among r.0 z r.2) in
    omega arith

four_free : (S : List ℕ) (P : Plan) (x : ℕ) → Fit S P → length S ≤ 4 → IsIn S x → held P x ≡ None → 4 ≤ length (frees P)
unfolding frees
four_free S P x f h s e =
    let a = free_and_kept P below_seven in
    let b = pigeon (x ∷ kept_among P below_seven) S
    ((λ i. let r = in_kept P 0 7 below_seven x seven i in held_not P x r.0 e r.2), distinct_kept S P 0 7 below_seven f seven)
    (λ z i. ⊎_elim (λ c. subst (λ z. IsIn S z) (eqb-true x z c) s) (λ c. let r = in_kept P 0 7 below_seven z seven c in f.among r.0 z r.2)
    (or_cases (x == z) (has_number (kept_among P below_seven) z) i)) in
    omega arith

-- What the calls leave of Fit and of Has --------------------------------------------------------------------------

pub fit_start : (S : List ℕ) → Fit S start
fit_start S = record {
  long = refl;
  low = λ j x e. absurd (none_kept j x e);
  one = λ i j x e g. absurd (none_kept i x e);
  among = λ j x e. absurd (none_kept j x e);
}
  where
    none_kept : (j x : ℕ) → get_or start j None ≡ Some x → ⊥
    none_kept j x e = let n : None ≡ Some x = start_below [] j x e in cc

pub fit_below : (S : List ℕ) (P Q : Plan) → Fit S P → length Q ≡ 8 → Below Q P → Fit S Q
fit_below S P Q f l b = record {
  long = l;
  low = λ j x e. f.low j x (b j x e);
  one = λ i j x e g. f.one i j x (b i x e) (b j x g);
  among = λ j x e. f.among j x (b j x e);
}

fit_keep : (S : List ℕ) (P : Plan) (x r : ℕ) → Fit S P → (Has P x → ⊥) → r < 7 → IsIn S x → Fit S (keep P x r)
fit_keep S P x r f n h s = record {
  long = length-set P r (Some x) ∙ f.long;
  low = λ j y e. ⊎_elim (λ c. subst (λ j. j < 7) (sym c.0) h) (λ c. f.low j y c) (kept_is P x r j y e);
  one = λ i j y e g.
      ⊎_elim
      (λ c. ⊎_elim (λ d. c.0 ∙ sym d.0) (λ d. absurd (n (j, d ∙ ap Some c.1))) (kept_is P x r j y g))
      (λ c. ⊎_elim (λ d. absurd (n (i, c ∙ ap Some d.1))) (λ d. f.one i j y c d) (kept_is P x r j y g))
      (kept_is P x r i y e);
  among = λ j y e. ⊎_elim (λ c. subst (λ y. IsIn S y) (sym c.1) s) (λ c. f.among j y c) (kept_is P x r j y e);
}

has_held : (P : Plan) (x : ℕ) → held P x ≡ None → Has P x → ⊥
has_held P x e h = held_not P x h.0 e h.1

keep_has : (P : Plan) (x r y : ℕ) → get_or P r None ≡ None → Has P y → Has (keep P x r) y
keep_has P x r y e h = (h.0, get_or-set_other P r h.0 (Some x) None (λ s. let n : Some y ≡ None = sym h.1 ∙ ap (λ j. get_or P j None) s ∙ e in cc) ∙ h.1)

keep_has_it : (P : Plan) (x r : ℕ) → length P ≡ 8 → r < 7 → Has (keep P x r) x
keep_has_it P x r l h = (r, get_or-set_same P r (Some x) None (rw l (omega arith)))

spoil_has : (P : Plan) (y : ℕ) → ((j : ℕ) → get_or P j None ≡ Some y → j < 7) → Has P y → Has (spoil P 7) y
spoil_has P y f h = (h.0, get_or-set_other P 7 h.0 None None (let a = f h.0 h.1 in λ s. absurd (omega arith)) ∙ h.1)

pub stored_has : (P : Plan) (x y : ℕ) → y ≢ x → Has P y → Has (stored P x) y
stored_has P x y n h =
    (h.0, get_or-map (λ o. cond (is_for x o) None o) P h.0 None ∙ ap (λ o. cond (is_for x o) None o) h.1 ∙ ap (λ b. cond b None (Some y)) (false_from_ne_true (y == x) (λ e. n (eqb-true y x e))))

stored_free : (P : Plan) (x r : ℕ) → get_or P r None ≡ None → get_or (stored P x) r None ≡ None
stored_free P x r e = get_or-map (λ o. cond (is_for x o) None o) P r None ∙ ap (λ o. cond (is_for x o) None o) e

-- The loads that a plan still owes --------------------------------------------------------------------------------

abbrev owed : Option ℕ → ℕ
owed None = 1
owed (Some r) = 0

abbrev pub credit : (ℕ → Bool) → Plan → ℕ → ℕ
credit st P x = cond (st x) (owed (held P x)) 0

pub credit_has : (st : ℕ → Bool) (P : Plan) (x : ℕ) → Has P x → credit st P x ≡ 0
credit_has st P x h = go (st x) (held P x) refl
  where
    go : (b : Bool) (o : Option ℕ) → held P x ≡ o → cond b (owed o) 0 ≡ 0
    go true None e = absurd (has_held P x e h)
    go true (Some r) e = refl
    go false o e = refl

credit_one : (st : ℕ → Bool) (P : Plan) (x : ℕ) → st x ≡ true → held P x ≡ None → credit st P x ≡ 1
credit_one st P x s e = ap (λ b. cond b (owed (held P x)) 0) s ∙ ap owed e

pub credit_small : (st : ℕ → Bool) (P : Plan) (x : ℕ) → credit st P x ≤ 1
credit_small st P x = go (st x) (held P x)
  where
    go : (b : Bool) (o : Option ℕ) → cond b (owed o) 0 ≤ 1
    go true None = omega arith
    go true (Some r) = omega arith
    go false o = omega arith

-- what stays stable stays kept
pub credit_less : (st st' : ℕ → Bool) (P Q : Plan) (x : ℕ) → (st' x ≡ true → st x ≡ true) → (st' x ≡ true → Has P x → Has Q x) → credit st' Q x ≤ credit st P x
credit_less st st' P Q x f g = go (st' x) refl (held Q x) refl (held P x) refl
  where
    go : (b : Bool) → st' x ≡ b → (o : Option ℕ) → held Q x ≡ o → (q : Option ℕ) → held P x ≡ q → cond b (owed o) 0 ≤ cond (st x) (owed (held P x)) 0
    go false e o i q j = omega arith
    go true e (Some r) i q j = omega arith
    go true e None i None j = subst (λ n. 1 ≤ n) (sym (credit_one st P x (f e) j)) (omega arith)
    go true e None i (Some r) j = absurd (has_held Q x i (g e (r, held_is P x r j)))

-- Counting --------------------------------------------------------------------------------------------------------

-- how many lines load x, by recursion
abbrev pub loads : ℕ → List Line → ℕ
loads x [] = 0
loads x (l ∷ ls) = if is_load_of x l.instr then suc (loads x ls) else loads x ls

pub loads_are : (x : ℕ) (ls : List Line) → loads x ls ≡ loads_of x ls
loads_are x ls =
    is_count_by (loads x) (λ l. is_load_of x l.instr) refl
    (λ l ls. ap (λ n. cond (is_load_of x l.instr) n (loads x ls)) (let e : suc (loads x ls) ≡ 1 + loads x ls = omega arith in e)) ls

pub loads_in : ℕ → List Instr → ℕ
loads_in x [] = 0
loads_in x (c ∷ cs) = if is_load_of x c then suc (loads_in x cs) else loads_in x cs

loads_in_append : (x : ℕ) (a b : List Instr) → loads_in x (a ++ b) ≡ loads_in x a + loads_in x b
unfolding loads_in
loads_in_append x [] b = omega arith
loads_in_append x (c ∷ a) b = go (is_load_of x c) (loads_in_append x a b)
  where
    go : (k : Bool) → loads_in x (a ++ b) ≡ loads_in x a + loads_in x b
        → cond k (suc (loads_in x (a ++ b))) (loads_in x (a ++ b)) ≡ cond k (suc (loads_in x a)) (loads_in x a) + loads_in x b
    go true e = omega arith
    go false e = e

pub loads_append : (x : ℕ) (a b : List Line) → loads x (a ++ b) ≡ loads x a + loads x b
loads_append x [] b = omega arith
loads_append x (l ∷ a) b = go (is_load_of x l.instr) (loads_append x a b)
  where
    go : (k : Bool) → loads x (a ++ b) ≡ loads x a + loads x b → cond k (suc (loads x (a ++ b))) (loads x (a ++ b)) ≡ cond k (suc (loads x a)) (loads x a) + loads x b
    go true e = omega arith
    go false e = e

loads_rest : (x : ℕ) (cs : List Instr) → loads x (map (line 0) cs) ≡ loads_in x cs
unfolding loads_in
loads_rest x [] = refl
loads_rest x (c ∷ cs) = ap (λ n. cond (is_load_of x c) (suc n) n) (loads_rest x cs)

pub loads_weigh : (x : ℕ) (cs : List Instr) → loads x (weigh cs) ≡ loads_in x cs
unfolding loads_in
loads_weigh x [] = refl
loads_weigh x (c ∷ cs) = ap (λ n. cond (is_load_of x c) (suc n) n) (loads_rest x cs)

-- Expressions -----------------------------------------------------------------------------------------------------

module _ (S : List ℕ) (few : length S ≤ 4) (st : ℕ → Bool) where
  record FetchedAll (xs : List ℕ) (P Q : Plan) (cs : List Instr) : Type 0 where
    fit : Fit S Q
    more : (z : ℕ) → Has P z → Has Q z
    all : (z : ℕ) → IsIn xs z → IsTrue (st z) → Has Q z
    counts : (x : ℕ) → loads_in x cs + credit st Q x ≤ credit st P x

  fetch_none : (w : ℕ) (P : Plan) (x : ℕ) → w ≤ 3 → Fit S P → IsIn S x → IsTrue (st x) → fetch_at st w P x ≡ None → Has P x
  fetch_none w P x h f s i e = go (st x) i (held P x) refl e
    where
      go : (b : Bool) → IsTrue b → (o : Option ℕ) → held P x ≡ o → fetch_into b o (part P w) ≡ None → Has P x
      go false i o g e = absurd (let c : false ≡ true = i in cc)
      go true i (Some r) g e = (r, held_is P x r g)
      go true i None g e =
          absurd (let n = four_free S P x f few s g in let c : Some (get_or (frees P) w 0) ≡ None = sym (slice_get-get_or (frees P) w 0 (omega arith)) ∙ e in cc)

  fetch_all : (w : ℕ) → w ≤ 3 → (xs : List ℕ) (P : Plan) → Fit S P → ((z : ℕ) → IsIn xs z → IsTrue (st z) → IsIn S z)
      → FetchedAll xs P (fetch_plan st w xs P) (fetch_instrs st w xs P)
  unfolding loads_in
  fetch_all w h [] P f g = record { fit = f; more = λ z k. k; all = λ z i s. cc; counts = λ x. omega arith }
  fetch_all w h (x ∷ xs) P f g = go (fetch_at st w P x) refl (λ Q k. fetch_all w h xs Q k (λ z i s. g z (or_right (x == z) _ i) s))
    where
      at_x : (z : ℕ) → IsTrue (x == z) → IsTrue (st z) → IsTrue (st x)
      at_x z e s = subst (λ z. IsTrue (st z)) (sym (eqb-true x z e)) s

      go : (o : Option ℕ) → fetch_at st w P x ≡ o → ((Q : Plan) → Fit S Q → FetchedAll xs Q (fetch_plan st w xs Q) (fetch_instrs st w xs Q))
          → FetchedAll (x ∷ xs) P (fetch_plan st w xs (fetched_plan P x o)) (load_into x o ++ fetch_instrs st w xs (fetched_plan P x o))
      go None e ih =
          let n = ih P f in
          record {
            fit = n.fit;
            more = n.more;
            all = λ z i s. ⊎_elim
                (λ c. let q = eqb-true x z c in subst (λ z. Has (fetch_plan st w xs P) z) q (n.more x (fetch_none w P x h f (g x (or_left _ _ (eq-eqb x x refl)) (at_x z c s)) (at_x z c s) e)))
                (λ c. n.all z c s) (or_cases (x == z) (has_number xs z) i);
            counts = n.counts;
          }
      go (Some r) e ih =
          let q = fetch_some st w P x r e in
          let i = part_in P w r q.2 in
          let low : r < 7 = subst (λ r. r < 7) (sym i.1) (reg_low P w i.0) in
          let free : get_or P r None ≡ None = ap (λ r. get_or P r None) i.1 ∙ reg_free P w i.0 in
          let n = ih (keep P x r) (fit_keep S P x r f (has_held P x q.1) low (g x (or_left _ _ (eq-eqb x x refl)) q.0)) in
          let here = keep_has_it P x r f.long low in
          record {
            fit = n.fit;
            more = λ z k. n.more z (keep_has P x r z free k);
            all = λ z i s. ⊎_elim (λ c. subst (λ z. Has (fetch_plan st w xs (keep P x r)) z) (eqb-true x z c) (n.more x here)) (λ c. n.all z c s) (or_cases (x == z) (has_number xs z) i);
            counts = λ y. count y (x == y) refl (n.counts y) q.0 q.1 here free;
          }
        where
          count : (y : ℕ) (b : Bool) → (x == y) ≡ b → loads_in y (fetch_instrs st w xs (keep P x r)) + credit st (fetch_plan st w xs (keep P x r)) y ≤ credit st (keep P x r) y
              → IsTrue (st x) → held P x ≡ None → Has (keep P x r) x → get_or P r None ≡ None
              → cond b (suc (loads_in y (fetch_instrs st w xs (keep P x r)))) (loads_in y (fetch_instrs st w xs (keep P x r))) + credit st (fetch_plan st w xs (keep P x r)) y ≤ credit st P y
          count y true c k s h here free =
              let q = eqb-true x y c in
              let a : credit st P y ≡ 1 = subst (λ y. credit st P y ≡ 1) q (credit_one st P x s h) in
              let d : credit st (keep P x r) y ≡ 0 = subst (λ y. credit st (keep P x r) y ≡ 0) q (credit_has st (keep P x r) x here) in
              omega arith
          count y false c k s h here free = let a = credit_less st st P (keep P x r) y (λ e. e) (λ e h. keep_has P x r y free h) in omega arith

  -- where all is fetched_plan, nothing is loaded
  gen_loads : (P : Plan) (e : Term) (d x : ℕ) → ((z : ℕ) → IsTrue (mentions e z) → IsTrue (st z) → Has P z) → loads_in x (term_instrs st P e d) ≡ 0
  unfolding loads_in
  gen_loads P (const k) d x f = refl
  gen_loads P (var z) d x f = go (st z) (f z (eq-eqb z z refl)) (held P z) refl
    where
      go : (b : Bool) → (IsTrue b → Has P z) → (o : Option ℕ) → held P z ≡ o → loads_in x (var_instr b o (part_register P d) z ∷ []) ≡ 0
      go true f None e = absurd (has_held P z e (f refl))
      go true f (Some r) e = refl
      go false f o e = refl
  gen_loads P (neg e) d x f = loads_in_append x (term_instrs st P e d) _ ∙ let k = gen_loads P e d x f in omega arith
  gen_loads P (bin o a b) d x f =
      loads_in_append x (term_instrs st P a d) _ ∙
      let k = gen_loads P a d x (λ z i s. f z (or_left _ _ i) s) in
      let n = loads_in_append x (term_instrs st P b (suc d)) (Bin o (part_register P d) (part_register P (suc d)) ∷ []) in
      let l = gen_loads P b (suc d) x (λ z i s. f z (or_right (mentions a z) _ i) s) in
      omega arith

  with_loads : (e : Term) (x : ℕ) (o : Option ℕ) → FoundIn st e o → (cs : List Instr) → loads_in x (load_unstable o ++ cs) ≤ cond (mentions e x && not (st x)) 1 0 + loads_in x cs
  unfolding loads_in
  with_loads e x None f cs = omega arith
  with_loads e x (Some u) f cs = go (u == x) refl
    where
      go : (b : Bool) → (u == x) ≡ b → cond b (suc (loads_in x cs)) (loads_in x cs) ≤ cond (mentions e x && not (st x)) 1 0 + loads_in x cs
      go true c =
          let q = eqb-true u x c in
          let a : (mentions e x && not (st x)) ≡ true =
          ap (λ b. b && not (st x)) (subst (λ x. IsTrue (mentions e x)) q f.0) ∙ ap not (subst (λ x. st x ≡ false) q f.1) in
          subst (λ b. suc (loads_in x cs) ≤ cond b 1 0 + loads_in x cs) (sym a) (omega arith)
      go false c = omega arith

  pub record ExprFew (P Q : Plan) (e : Term) (cs : List Instr) : Type 0 where
    pub fit : Fit S Q
    pub more : (z : ℕ) → Has P z → Has Q z
    pub counts : (x : ℕ) → loads_in x cs + credit st Q x ≤ cond (mentions e x && not (st x)) 1 0 + credit st P x

  pub expr_few : (P : Plan) (e : Term) → width e ≤ 3 → Fit S P → ((z : ℕ) → IsIn (occurrences e) z → IsTrue (st z) → IsIn S z) → ExprFew P (expr_plan st P e) e (expr_instrs st P e)
  expr_few P e h f g =
      let same : expr_room P e ≡ spoil P 7 = ap (λ P. spoil P 7) (room_same P (width e) (let a = three_free S P f few in omega arith)) in
      let fit : Fit S (expr_room P e) = subst (Fit S) (sym same) (fit_below S P (spoil P 7) f (length-set P 7 None ∙ f.long) (spoil_below P 7)) in
      let has : (z : ℕ) → Has P z → Has (expr_room P e) z = λ z k. subst (λ Q. Has Q z) (sym same) (spoil_has P z (λ j i. f.low j z i) k) in
      let n = fetch_all (width e) h (occurrences e) (expr_room P e) fit g in
      record {
        fit = n.fit;
        more = λ z k. n.more z (has z k);
        counts = λ x.
            let code = fetch_instrs st (width e) (occurrences e) (expr_room P e) in
            let parts = term_instrs st (expr_plan st P e) e 0 in
            let a = with_loads e x (unstable_of st e) (found st e) (code ++ parts) in
            let b = loads_in_append x code parts in
            let c = gen_loads (expr_plan st P e) e 0 x (λ z i s. n.all z ((occurs e z ∙ i)) s) in
            let d = n.counts x in
            let k = credit_less st st P (expr_room P e) x (λ e. e) (λ e h. has x h) in
            omega arith;
      }

  -- Assignments ---------------------------------------------------------------------------------------------------

  pub store_fit : (Q : Plan) (y r : ℕ) → Fit S Q → r < 7 → (b : Bool) → (IsTrue b → IsIn S y) → Fit S (store_plan b Q y r)
  store_fit Q y r f h b g = go b g
    where
      left : Fit S (stored Q y)
      left = fit_below S Q (stored Q y) f (length-map Q _ ∙ f.long) (λ j x e. (stored_is Q y j x e).1)

      go : (b : Bool) → (IsTrue b → IsIn S y) → Fit S (store_plan b Q y r)
      go true g = fit_keep S (stored Q y) y r left (λ k. (stored_is Q y k.0 y k.1).0 refl) h (g refl)
      go false g = left

  pub store_more : (Q : Plan) (y r x : ℕ) → Fit S Q → r < 7 → get_or Q r None ≡ None → (b : Bool) → st y ≡ b → st x ≡ true → Has Q x → Has (store_plan b Q y r) x
  store_more Q y r x f h free true e s k = go (ℕ_discrete x y)
    where
      go : Dec (x ≡ y) → Has (keep (stored Q y) y r) x
      go (yes i) = subst (λ x. Has (keep (stored Q y) y r) x) (sym i) (keep_has_it (stored Q y) y r (length-map Q _ ∙ f.long) h)
      go (no n) = keep_has (stored Q y) y r x (stored_free Q y r free) (stored_has Q y x n k)
  store_more Q y r x f h free false e s k = stored_has Q y x (λ i. absurd (both_ways (st y) e (sym (ap st i) ∙ s))) k
