-- The code of an expression gives its value, and the plan after it is true.
use Rattle.std.proofs.Common.{◌≡◌, ◌≢◌, ℕ, zero, suc, ◌+◌, ◌<◌, ◌≤◌, ◌==◌, List, [], ◌∷◌, ◌++◌, length, get_or, set, Bool, true, false, if◌then◌else◌, not, Option, Some, None, refl, sym, ◌∙◌, ap, ap₂, subst, arith, IsTrue, inl, inr, ⊎_elim, length-set, get_or-set_same, get_or-set_other, le_refl, eq-eqb, eqb-true}
use Rattle.std.specs.Option.{option_or}
use Rattle.std.proofs.Math.Dec.{eqb-suc-zero}
use Rattle.std.proofs.lemmas.Bool.{or_left, or_right, or_cases, both_ways}
use Rattle.cov_expr.specs.declared.expr.Op.{Op}
use Rattle.cov_expr.specs.declared.expr.Op.TheVariants.{Eq}
use Rattle.cov_expr.specs.Term.{Term, const, var, neg, bin, value, apply, flag, is_set}
use Rattle.cov_expr.specs.Trees.{mentions, occurrences, width}
use Rattle.cov_ast.specs.Plain.{Plain}
use Rattle.mode_state.specs.Sets.{is_stable}
use Rattle.regalloc.specs.Plan.{Plan, held, keep, stored, frees, part, room}
use Rattle.compiled_code.specs.Compiled.{expr_room, part_register, var_instr, unstable_of, load_unstable, term_instrs, fetch_into, fetch_at, fetched_plan, load_into, fetch_plan, fetch_instrs, expr_plan, expr_register, expr_instrs, direct, store_from, store_plan}
use Rattle.compiled_code.proofs.Cores.{exec_one, exec, exec_append, IsStraight, Straight, straight_append}
use Rattle.compiled_code.proofs.Plans.{spoil_below, spoil_there, frees_spoil, held_is, kept_is, stored_is, reg_low, reg_apart, reg_free, frees_keep, part_in, room_gives, room_has}
use Rattle.compiled_code.proofs.Shape.{Record, AfterStore, Yields}
use Rattle.risc_machine.specs.declared.parts.Instr.{Instr}
use Rattle.risc_machine.specs.declared.parts.Instr.TheVariants.{Load, MovC, Bin}

-- Values of parts -------------------------------------------------------------------------------------------------

flag_not : (a : ℕ) → flag (a == 0) ≡ flag (not (is_set a))
flag_not zero = refl
flag_not (suc a) = ap flag (eqb-suc-zero a)

pub one_wide : (e : Term) → 1 ≤ width e
one_wide (const k) = omega arith
one_wide (var x) = omega arith
one_wide (neg e) = omega arith
one_wide (bin o a b) = omega (arith, one_wide a)

-- the unstable variable that is found is one of e's, and where none is found there is none
abbrev pub FoundIn : (ℕ → Bool) → Term → Option ℕ → Type 0
FoundIn st e None = (x : ℕ) → IsTrue (mentions e x) → IsTrue (st x)
FoundIn st e (Some u) = IsTrue (mentions e u) × (st u ≡ false)

pub found : (st : ℕ → Bool) (e : Term) → FoundIn st e (unstable_of st e)
found st (const k) = λ x h. cc
found st (var x) = go (st x) refl
  where
    go : (b : Bool) → st x ≡ b → FoundIn st (var x) (if b then None else Some x)
    go true e = λ y h. subst (λ z. IsTrue (st z)) (eqb-true x y h) e
    go false e = (eq-eqb x x refl, e)
found st (neg e) = found_neg (unstable_of st e) (found st e)
  where
    found_neg : (o : Option ℕ) → FoundIn st e o → FoundIn st (neg e) o
    found_neg None f = f
    found_neg (Some u) f = f
found st (bin o a b) = found_both (unstable_of st a) (unstable_of st b) (found st a) (found st b)
  where
    found_both : (x y : Option ℕ) → FoundIn st a x → FoundIn st b y → FoundIn st (bin o a b) (option_or x y)
    found_both (Some u) y f g = (or_left _ _ f.0, f.1)
    found_both None (Some u) f g = (or_right (mentions a u) _ g.0, g.1)
    found_both None None f g = λ x h. ⊎_elim (λ k. f x k) (λ k. g x k) (or_cases (mentions a x) (mentions b x) h)

-- register j is none of the parts from d on
abbrev Clear : Plan → ℕ → ℕ → Type 0
Clear P d j = (e : ℕ) → d ≤ e → e < length (frees P) → j ≢ part_register P e

clear_more : (P : Plan) (d j : ℕ) → Clear P d j → Clear P (suc d) j
clear_more P d j c e h l = c e (omega arith) l

clear_kept : (P : Plan) (d j x : ℕ) → get_or P j None ≡ Some x → Clear P d j
clear_kept P d j x k e h l = λ s. let n : Some x ≡ None = sym k ∙ ap (λ j. get_or P j None) s ∙ reg_free P e l in cc

clear_seven : (P : Plan) (d : ℕ) → Clear P d 7
clear_seven P d e h l = λ s. let n = reg_low P e l in absurd (omega arith)

clear_below : (P : Plan) (d : ℕ) → Clear P (suc d) (part_register P d)
clear_below P d e h l = λ s. let n = reg_apart P d e (omega arith) l in absurd (omega arith)

-- v is in part d, and what is no part from d on is as in r
record Gives (P : Plan) (r q : List ℕ) (d v : ℕ) : Type 0 where
  long : length q ≡ 8
  result : get_or q (part_register P d) 0 ≡ v
  same : (j : ℕ) → Clear P d j → get_or q j 0 ≡ get_or r j 0

gives_set : (P : Plan) (r : List ℕ) (d v : ℕ) → length r ≡ 8 → d < length (frees P) → Gives P r (set r (part_register P d) v) d v
gives_set P r d v l h = record {
  long = length-set r (part_register P d) v ∙ l;
  result = get_or-set_same r (part_register P d) v 0 (rw l (let k = reg_low P d h in omega arith));
  same = λ j c. get_or-set_other r (part_register P d) j v 0 (c d (le_refl d) h);
}

not_gives : (P : Plan) (m q r : List ℕ) (d v : ℕ) → Gives P r q d v → suc d < length (frees P)
    → Gives P r (exec q m (MovC (part_register P (suc d)) 0 ∷ Bin Eq (part_register P d) (part_register P (suc d)) ∷ [])) d (flag (not (is_set v)))
not_gives P m q r d v g h =
    let a = part_register P d in
    let b = part_register P (suc d) in
    let z = set q b 0 in
    let apart = reg_apart P d (suc d) (omega arith) h in
    let low = reg_low P (suc d) h in
    let at_d : get_or z a 0 ≡ v = get_or-set_other q b a 0 0 (omega arith) ∙ g.result in
    let at_next : get_or z b 0 ≡ 0 = get_or-set_same q b 0 0 (rw g.long (omega arith)) in
    record {
      long = length-set z a _ ∙ length-set q b 0 ∙ g.long;
      result = get_or-set_same z a _ 0 (rw (length-set, g.long) (omega arith)) ∙ ap₂ (λ a b. flag (a == b)) at_d at_next ∙ flag_not v;
      same = λ j c. get_or-set_other z a j _ 0 (c d (le_refl d) (omega arith)) ∙ get_or-set_other q b j 0 0 (c (suc d) (omega arith) h) ∙ g.same j c;
    }

op_gives : (P : Plan) (m : List ℕ) (o : Op) (r q n : List ℕ) (d v w : ℕ) → Gives P r q d v → Gives P q n (suc d) w → suc d < length (frees P)
    → Gives P r (exec n m (Bin o (part_register P d) (part_register P (suc d)) ∷ [])) d (apply o v w)
op_gives P m o r q n d v w g k h =
    let low = reg_low P d (omega arith) in
    record {
      long = length-set n (part_register P d) _ ∙ k.long;
      result = get_or-set_same n (part_register P d) _ 0 (rw k.long (omega arith)) ∙ ap₂ (apply o) (k.same (part_register P d) (clear_below P d) ∙ g.result) k.result;
      same = λ j c. get_or-set_other n (part_register P d) j _ 0 (c d (le_refl d) (omega arith)) ∙ k.same j (clear_more P d j c) ∙ g.same j c;
    }

module _ (p : Plain) (t : ℕ) (H : List Bool) (m : List ℕ) where
  -- what keeps the kept registers keeps the record
  record_gives : (P : Plan) (r q : List ℕ) (d v : ℕ) → Record p t P H r m → Gives P r q d v → Record p t P H q m
  record_gives P r q d v k g j x e = let n = k j x e in (n.0, g.same j (clear_kept P d j x e) ∙ n.1)

  var_gives : (P : Plan) (x d : ℕ) (r : List ℕ) → length r ≡ 8 → d < length (frees P) → Record p t P H r m → (is_stable p t H x ≡ false → get_or r 7 0 ≡ get_or m x 0)
      → (b : Bool) → is_stable p t H x ≡ b → (o : Option ℕ) → held P x ≡ o → Gives P r (exec r m (var_instr b o (part_register P d) x ∷ [])) d (get_or m x 0)
  var_gives P x d r l h k u true e None i = gives_set P r d (get_or m x 0) l h
  var_gives P x d r l h k u true e (Some s) i =
      let g = gives_set P r d (get_or r s 0) l h in record { long = g.long; result = g.result ∙ (k s x (held_is P x s i)).1; same = g.same }
  var_gives P x d r l h k u false e o i =
      let g = gives_set P r d (get_or r 7 0) l h in record { long = g.long; result = g.result ∙ u e; same = g.same }

  gen_gives : (P : Plan) (e : Term) (d : ℕ) (r : List ℕ) → length r ≡ 8 → width e + d ≤ length (frees P) → Record p t P H r m
      → ((x : ℕ) → IsTrue (mentions e x) → is_stable p t H x ≡ false → get_or r 7 0 ≡ get_or m x 0) → Gives P r (exec r m (term_instrs (is_stable p t H) P e d)) d (value e m)
  gen_gives P (const k) d r l h n u = gives_set P r d k l (omega arith)
  gen_gives P (var x) d r l h n u = var_gives P x d r l (omega arith) n (u x (eq-eqb x x refl)) (is_stable p t H x) refl (held P x) refl
  gen_gives P (neg e) d r l h n u =
      let g = gen_gives P e d r l (omega arith) n u in
      subst (λ q. Gives P r q d (value (neg e) m)) (sym (exec_append r m (term_instrs (is_stable p t H) P e d) (MovC (part_register P (suc d)) 0 ∷ Bin Eq (part_register P d) (part_register P (suc d)) ∷ [])))
      (not_gives P m (exec r m (term_instrs (is_stable p t H) P e d)) r d (value e m) g (omega arith))
  gen_gives P (bin o a b) d r l h n u =
      let g = gen_gives P a d r l (omega arith) n (λ x k. u x (or_left _ _ k)) in
      let q = exec r m (term_instrs (is_stable p t H) P a d) in
      let k = gen_gives P b (suc d) q g.long (omega arith) (record_gives P r q d (value a m) n g)
      (λ x k s. g.same 7 (clear_seven P d) ∙ u x (or_right (mentions a x) _ k) s) in
      subst (λ q. Gives P r q d (value (bin o a b) m))
      (sym (exec_append r m (term_instrs (is_stable p t H) P a d) (term_instrs (is_stable p t H) P b (suc d) ++ (Bin o (part_register P d) (part_register P (suc d)) ∷ []))
      ∙ exec_append q m (term_instrs (is_stable p t H) P b (suc d)) (Bin o (part_register P d) (part_register P (suc d)) ∷ [])))
      (op_gives P m o r q (exec q m (term_instrs (is_stable p t H) P b (suc d))) d (value a m) (value b m) g k (omega (arith, one_wide b)))

-- Loads in front --------------------------------------------------------------------------------------------------

pub fetch_some : (st : ℕ → Bool) (w : ℕ) (P : Plan) (x s : ℕ) → fetch_at st w P x ≡ Some s → IsTrue (st x) × (held P x ≡ None) × (part P w ≡ Some s)
fetch_some st w P x s e = go (st x) refl (held P x) refl e
  where
    go : (b : Bool) → st x ≡ b → (h : Option ℕ) → held P x ≡ h → fetch_into b h (part P w) ≡ Some s → IsTrue (st x) × (held P x ≡ None) × (part P w ≡ Some s)
    go true i None n e = (i, n, e)
    go true i (Some r) n e = absurd cc
    go false i h n e = absurd cc

pub record Fetched (p : Plain) (t : ℕ) (H : List Bool) (m : List ℕ) (w : ℕ) (Q : Plan) (r q : List ℕ) : Type 0 where
  pub long : length q ≡ 8
  pub free : w ≤ length (frees Q)
  pub keeps : Record p t Q H q m
  pub seven : get_or q 7 0 ≡ get_or r 7 0

below_eight : (P : Plan) (s w : ℕ) → w < length (frees P) → s ≡ part_register P w → s < 8
below_eight P s w n e = let a = reg_low P w n in omega arith

module _ (p : Plain) (t : ℕ) (H : List Bool) (m : List ℕ) (w : ℕ) where
  loaded_record : (P : Plan) (x s : ℕ) (r : List ℕ) → length r ≡ 8 → Record p t P H r m → IsTrue (is_stable p t H x) → w < length (frees P) → s ≡ part_register P w
      → Record p t (keep P x s) H (set r s (get_or m x 0)) m
  loaded_record P x s r l k st n e j y i = ⊎_elim
      (λ c. (
        subst (λ y. IsTrue (is_stable p t H y)) (sym c.1) st,
        ap (λ j. get_or (set r s (get_or m x 0)) j 0) c.0
            ∙ get_or-set_same r s (get_or m x 0) 0 (rw l (below_eight P s w n e)) ∙ ap (λ y. get_or m y 0) (sym c.1),
      ))
      (λ c. let q = k j y c in (q.0, get_or-set_other r s j (get_or m x 0) 0 (λ z. not_free z c) ∙ q.1)) (kept_is P x s j y i)
    where
      not_free : j ≡ s → get_or P j None ≡ Some y → ⊥
      not_free z c = let a : Some y ≡ None = sym c ∙ ap (λ j. get_or P j None) (z ∙ e) ∙ reg_free P w n in cc

  fetched : (xs : List ℕ) (P : Plan) (r : List ℕ) → length r ≡ 8 → w ≤ length (frees P) → Record p t P H r m
      → Fetched p t H m w (fetch_plan (is_stable p t H) w xs P) r (exec r m (fetch_instrs (is_stable p t H) w xs P))
  fetched [] P r l h k = record { long = l; free = h; keeps = k; seven = refl }
  fetched (x ∷ xs) P r l h k = go (fetch_at (is_stable p t H) w P x) refl (fetched xs P r l h k) (λ Q r. fetched xs Q r)
    where
      st : ℕ → Bool
      st = is_stable p t H

      go : (o : Option ℕ) → fetch_at (is_stable p t H) w P x ≡ o
          → Fetched p t H m w (fetch_plan (is_stable p t H) w xs P) r (exec r m (fetch_instrs (is_stable p t H) w xs P))
          → ((Q : Plan) (q : List ℕ) → length q ≡ 8 → w ≤ length (frees Q) → Record p t Q H q m
          → Fetched p t H m w (fetch_plan (is_stable p t H) w xs Q) q (exec q m (fetch_instrs (is_stable p t H) w xs Q)))
          → Fetched p t H m w (fetch_plan (is_stable p t H) w xs (fetched_plan P x o)) r (exec r m (load_into x o ++ fetch_instrs (is_stable p t H) w xs (fetched_plan P x o)))
      go None e same ih = same
      go (Some s) e same ih =
          let f = fetch_some (is_stable p t H) w P x s e in
          let i = part_in P w s f.2 in
          let low = reg_low P w i.0 in
          let n = ih (keep P x s) (set r s (get_or m x 0)) (length-set r s (get_or m x 0) ∙ l) (let c = frees_keep P x s in let d = i.0 in omega arith)
          (loaded_record P x s r l k f.0 i.0 i.1) in
          record {
            long = n.long;
            free = n.free;
            keeps = n.keeps;
            seven = n.seven ∙ get_or-set_other r s 7 (get_or m x 0) 0 (let c = i.1 in λ z. absurd (omega arith));
          }

  -- the loads and the parts
  all_gives : (P : Plan) (e : Term) (r : List ℕ) → length r ≡ 8 → w ≡ width e → w ≤ length (frees P) → Record p t P H r m
      → ((x : ℕ) → IsTrue (mentions e x) → is_stable p t H x ≡ false → get_or r 7 0 ≡ get_or m x 0) → (xs : List ℕ)
      → (let Q = fetch_plan (is_stable p t H) w xs P in Yields p t H Q (part_register Q 0) (value e m) (exec r m (fetch_instrs (is_stable p t H) w xs P ++ term_instrs (is_stable p t H) Q e 0)) m)
  all_gives P e r l s h k u xs =
      let Q = fetch_plan (is_stable p t H) w xs P in
      let q = exec r m (fetch_instrs (is_stable p t H) w xs P) in
      let f = fetched xs P r l h k in
      let g = gen_gives p t H m Q e 0 q f.long (let a = f.free in omega arith) f.keeps (λ x i n. f.seven ∙ u x i n) in
      subst (λ z. Yields p t H Q (part_register Q 0) (value e m) z m) (sym (exec_append r m (fetch_instrs (is_stable p t H) w xs P) (term_instrs (is_stable p t H) Q e 0)))
      (record { result = g.result; keeps = record_gives p t H m Q q (exec q m (term_instrs (is_stable p t H) Q e 0)) 0 (value e m) f.keeps g })

-- What is loaded --------------------------------------------------------------------------------------------------

fetch_straight : (st : ℕ → Bool) (w : ℕ) (xs : List ℕ) (P : Plan) → Straight (λ x. IsTrue (st x)) (fetch_instrs st w xs P)
fetch_straight st w [] P = tt
fetch_straight st w (x ∷ xs) P = go (fetch_at st w P x) refl (λ Q. fetch_straight st w xs Q)
  where
    go : (o : Option ℕ) → fetch_at st w P x ≡ o → ((Q : Plan) → Straight (λ x. IsTrue (st x)) (fetch_instrs st w xs Q))
        → Straight (λ x. IsTrue (st x)) (load_into x o ++ fetch_instrs st w xs (fetched_plan P x o))
    go None e ih = ih P
    go (Some s) e ih = (tt, (fetch_some st w P x s e).0, ih (keep P x s))

gen_straight : (st : ℕ → Bool) (P : Plan) (e : Term) (d : ℕ) → Straight (λ x. IsTrue (st x)) (term_instrs st P e d)
gen_straight st P (const k) d = (tt, tt, tt)
gen_straight st P (var x) d = go (st x) refl (held P x)
  where
    go : (b : Bool) → st x ≡ b → (o : Option ℕ) → Straight (λ x. IsTrue (st x)) (var_instr b o (part_register P d) x ∷ [])
    go true e None = (tt, e, tt)
    go true e (Some s) = (tt, tt, tt)
    go false e o = (tt, tt, tt)
gen_straight st P (neg e) d =
    straight_append _ (term_instrs st P e d) (MovC (part_register P (suc d)) 0 ∷ Bin Eq (part_register P d) (part_register P (suc d)) ∷ []) (gen_straight st P e d) (tt, tt, (tt, tt, tt))
gen_straight st P (bin o a b) d =
    straight_append _ (term_instrs st P a d) (term_instrs st P b (suc d) ++ (Bin o (part_register P d) (part_register P (suc d)) ∷ [])) (gen_straight st P a d)
    (straight_append _ (term_instrs st P b (suc d)) (Bin o (part_register P d) (part_register P (suc d)) ∷ []) (gen_straight st P b (suc d)) (tt, tt, tt))

some_code : (st : ℕ → Bool) (P : Plan) (e : Term) (d : ℕ) → (c : Instr) × (cs : List Instr) × (term_instrs st P e d ≡ c ∷ cs)
some_code st P (const k) d = (_, _, refl)
some_code st P (var x) d = (_, _, refl)
some_code st P (neg e) d = let k = some_code st P e d in (k.0, _, ap (λ (cs : List Instr). cs ++ (MovC (part_register P (suc d)) 0 ∷ Bin Eq (part_register P d) (part_register P (suc d)) ∷ [])) k.2)
some_code st P (bin o a b) d = let k = some_code st P a d in (k.0, _, ap (λ (cs : List Instr). cs ++ (term_instrs st P b (suc d) ++ (Bin o (part_register P d) (part_register P (suc d)) ∷ []))) k.2)

some_more : (a b : List Instr) → (c : Instr) × (cs : List Instr) × (b ≡ c ∷ cs) → (c : Instr) × (cs : List Instr) × (a ++ b ≡ c ∷ cs)
some_more [] b k = k
some_more (c ∷ a) b k = (c, a ++ b, refl)

body_straight : (st : ℕ → Bool) (P : Plan) (e : Term) → Straight (λ x. IsTrue (st x)) (fetch_instrs st (width e) (occurrences e) (expr_room P e) ++ term_instrs st (expr_plan st P e) e 0)
body_straight st P e =
    straight_append _ (fetch_instrs st (width e) (occurrences e) (expr_room P e)) (term_instrs st (expr_plan st P e) e 0) (fetch_straight st (width e) (occurrences e) (expr_room P e))
    (gen_straight st (expr_plan st P e) e 0)

-- the whole code of an expression
pub record ExprParts (p : Plain) (t : ℕ) (H : List Bool) (P : Plan) (e : Term) (cs : List Instr) : Type 0 where
  pub first : Instr
  pub rest : List Instr
  pub is : cs ≡ first ∷ rest
  pub first_straight : IsStraight first
  pub rest_straight : Straight (λ x. IsTrue (is_stable p t H x)) rest
  pub right : (r m : List ℕ) → length r ≡ 8 → Record p t P H r m
      → Yields p t H (expr_plan (is_stable p t H) P e) (expr_register (is_stable p t H) P e) (value e m) (exec (exec_one r m first) m rest) m

roomy : (P : Plan) (e : Term) → width e ≤ 7 → width e ≤ length (frees (expr_room P e))
roomy P e h = subst (λ fs. width e ≤ length fs) (sym (frees_spoil (room P (width e)))) (room_has P (width e) h)

pub expr_parts : (p : Plain) (t : ℕ) (H : List Bool) (P : Plan) (e : Term) → width e ≤ 7
    → ((x y : ℕ) → IsTrue (mentions e x) → IsTrue (mentions e y) → is_stable p t H x ≡ false → is_stable p t H y ≡ false → x ≡ y)
    → ExprParts p t H P e (expr_instrs (is_stable p t H) P e)
expr_parts p t H P e narrow one = go (unstable_of (is_stable p t H) e) (found (is_stable p t H) e)
  where
    roomed : (r m : List ℕ) → Record p t P H r m → Record p t (expr_room P e) H r m
    roomed r m k j x i = k j x (room_gives P (width e) j x (spoil_below (room P (width e)) 7 j x i))

    with_seven : (r m : List ℕ) (v : ℕ) → Record p t (expr_room P e) H r m → Record p t (expr_room P e) H (set r 7 v) m
    with_seven r m v k j x i =
        let q = k j x i in
        (q.0, get_or-set_other r 7 j v 0 (λ z. let n : Some x ≡ None = sym i ∙ ap (λ j. get_or (expr_room P e) j None) z ∙ spoil_there (room P (width e)) 7 in cc) ∙ q.1)

    go : (o : Option ℕ) → FoundIn (is_stable p t H) e o
        → ExprParts p t H P e (load_unstable o ++ (fetch_instrs (is_stable p t H) (width e) (occurrences e) (expr_room P e) ++ term_instrs (is_stable p t H) (expr_plan (is_stable p t H) P e) e 0))
    go None f =
        let k = some_more (fetch_instrs (is_stable p t H) (width e) (occurrences e) (expr_room P e)) (term_instrs (is_stable p t H) (expr_plan (is_stable p t H) P e) e 0)
        (some_code (is_stable p t H) (expr_plan (is_stable p t H) P e) e 0) in
        let s = subst (Straight (λ x. IsTrue (is_stable p t H x))) k.2 (body_straight (is_stable p t H) P e) in
        record {
          first = k.0;
          rest = k.1;
          is = k.2;
          first_straight = s.0;
          rest_straight = s.2;
          right = λ r m l i.
              subst (λ cs. Yields p t H (expr_plan (is_stable p t H) P e) (expr_register (is_stable p t H) P e) (value e m) (exec r m cs) m) k.2
              (all_gives p t H m (width e) (expr_room P e) e r l refl (roomy P e narrow) (roomed r m i) (λ x h n. absurd (both_ways (is_stable p t H x) n (f x h))) (occurrences e));
        }
    go (Some u) f = record {
      first = Load 7 u;
      rest = fetch_instrs (is_stable p t H) (width e) (occurrences e) (expr_room P e) ++ term_instrs (is_stable p t H) (expr_plan (is_stable p t H) P e) e 0;
      is = refl;
      first_straight = tt;
      rest_straight = body_straight (is_stable p t H) P e;
      right = λ r m l i.
          all_gives p t H m (width e) (expr_room P e) e (set r 7 (get_or m u 0)) (length-set r 7 (get_or m u 0) ∙ l) refl (roomy P e narrow)
          (with_seven r m (get_or m u 0) (roomed r m i))
          (λ x h n. get_or-set_same r 7 (get_or m u 0) 0 (rw l (omega arith)) ∙ ap (λ z. get_or m z 0) (one u x f.0 h f.1 n)) (occurrences e);
    }

-- A value that is in a register already ---------------------------------------------------------------------------

pub direct_right : (p : Plain) (t : ℕ) (H : List Bool) (P : Plan) (e : Term) (s : ℕ) → direct (is_stable p t H) P e ≡ Some s → (r m : List ℕ) → Record p t P H r m
    → get_or r s 0 ≡ value e m
direct_right p t H P (const k) s e r m i = absurd cc
direct_right p t H P (var x) s e r m i = go (is_stable p t H x) e
  where
    go : (b : Bool) → (if b then held P x else None) ≡ Some s → get_or r s 0 ≡ get_or m x 0
    go true e = (i s x (held_is P x s e)).1
    go false e = absurd cc
direct_right p t H P (neg a) s e r m i = absurd cc
direct_right p t H P (bin o a b) s e r m i = absurd cc

pub store_from_direct : (st : ℕ → Bool) (P : Plan) (x : ℕ) (e : Term) (s : ℕ) → store_from st P x e ≡ Some s → direct st P e ≡ Some s
store_from_direct st P x e s = go (st x)
  where
    go : (b : Bool) → (if b then None else direct st P e) ≡ Some s → direct st P e ≡ Some s
    go true e = absurd cc
    go false e = e

pub store_plan_right : (p : Plain) (t : ℕ) (H : List Bool) (P : Plan) (x d : ℕ) → x < length p.vars → (b : Bool) → is_stable p t H x ≡ b
    → AfterStore p t H P x d (store_plan b P x d)
store_plan_right p t H P x d h true s j y e =
    ⊎_elim (λ k. inl (k.0, k.1, s, h)) (λ k. inr (stored_is P x j y k)) (kept_is (stored P x) x d j y e)
store_plan_right p t H P x d h false s j y e = inr (stored_is P x j y e)
