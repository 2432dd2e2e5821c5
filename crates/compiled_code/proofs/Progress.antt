-- Code doesn't spin, and ends where its source has ended.
use Rattle.std.proofs.Common.{◌≡◌, ◌≢◌, ◌⊎◌, ℕ, zero, suc, ◌+◌, ◌<◌, ◌≤◌, ◌==◌, List, [], ◌∷◌, ◌++◌, length, get_or, replicate, Bool, true, false, cond, if◌then◌else◌, Option, Some, None, refl, sym, ◌∙◌, ap, ap₂, subst, arith, inl, inr, ⊎_elim, slice_get, get_or-set_same, get_or-set_other, length-set, le_refl, eq-eqb, suc-add, zero-add, suc-le-suc}
use Rattle.std.proofs.Math.Decide.{ℕ_discrete, dec_le}
use Rattle.std.proofs.lemmas.Bool.{ne_eqb}
use Rattle.std.proofs.lemmas.List.Recursion.{is_count_by}
use Rattle.std.proofs.lemmas.Option.{slice_get_past}
use Rattle.cov_expr.specs.Words.{IsSchedule}
use Rattle.cov_ast.specs.Plain.{Plain}
use Rattle.flow_model.specs.Composable.{HasCompatibleModes}
use Rattle.flow_model.specs.Source.{Item, Local, local}
use Rattle.compiled_code.specs.Matches.{entries_of}
use Rattle.compiled_code.proofs.Cores.{Core, core_instr, core_line, core_of, core_step, core_from, core_lifted, IsStraight}
use Rattle.compiled_code.proofs.Coupling.{Coupled, coupled_step, next_items, next_is, next_other, now}
use Rattle.compiled_code.proofs.Forward.{Forward, Leads}
use Rattle.compiled_code.proofs.Shape.{Reach, here, hop}
use Rattle.compiled_code.proofs.Steps.{AreSets, Stands, ready, turned}
use Rattle.risc_machine.specs.Machine.{CodeState, line_of, lines_of, position, weight_of}
use Rattle.risc_machine.specs.declared.parts.Instr.{Instr}
use Rattle.risc_machine.specs.declared.parts.Instr.TheVariants.{Load, Store, Jump, Jz, Nop, MovC, MovR, Bin, Acquire, Release, Out}
use Rattle.risc_machine.specs.declared.parts.Line.{Line}
use Rattle.risc_machine.specs.declared.parts.Parts.{Parts}

-- Counts ----------------------------------------------------------------------------------------------------------

-- how many entries are of t, by recursion
abbrev pub count_of : ℕ → List ℕ → ℕ
count_of t [] = 0
count_of t (u ∷ us) = if u == t then suc (count_of t us) else count_of t us

pub counts_entries : (t : ℕ) (us : List ℕ) → count_of t us ≡ entries_of t us
counts_entries t us = is_count_by (count_of t) (λ u. u == t) refl (λ u us. ap (λ n. cond (u == t) n (count_of t us)) (let e : suc (count_of t us) ≡ 1 + count_of t us = omega arith in e)) us

count_append : (t : ℕ) (a b : List ℕ) → count_of t (a ++ b) ≡ count_of t a + count_of t b
count_append t [] b = sym (zero-add (count_of t b))
count_append t (u ∷ a) b =
    elim (u == t) as (λ (c : Bool). (if c then suc (count_of t (a ++ b)) else count_of t (a ++ b)) ≡ (if c then suc (count_of t a) else count_of t a) + count_of t b)
    [ true ↦ ap suc (count_append t a b) ∙ sym (suc-add (count_of t a) (count_of t b)) | false ↦ count_append t a b ]

count_same : (t w : ℕ) → count_of t (replicate w t) ≡ w
count_same t zero = refl
count_same t (suc w) = ap (λ b. if b then suc (count_of t (replicate w t)) else count_of t (replicate w t)) (eq-eqb t t refl) ∙ ap suc (count_same t w)

count_other : (t u w : ℕ) → u ≢ t → count_of t (replicate w u) ≡ 0
count_other t u zero n = refl
count_other t u (suc w) n =
    ap (λ b. if b then suc (count_of t (replicate w u)) else count_of t (replicate w u)) (ne_eqb u t n) ∙ count_other t u w n

pub none_past : (ls : List Line) (i : ℕ) → slice_get ls i ≡ None → length ls ≤ i
none_past [] i e = omega arith
none_past (l ∷ ls) zero e = absurd cc
none_past (l ∷ ls) (suc i) e = suc-le-suc (none_past ls i e)

-- a thread whose position is past its last line
abbrev pub IsPast : Parts → CodeState → ℕ → Type 0
IsPast c s t = length (lines_of c t) ≤ position s t

module _ (c : Parts) (t : ℕ) (forward : Forward (lines_of c t)) where
  position_other : (s : CodeState) (u : ℕ) → u ≢ t → position (core_step c s u) t ≡ position s t
  position_other s u n = get_or-set_other s.positions u t _ 0 (λ e. n (sym e))

  position_same : (s : CodeState) → t < length s.positions → position (core_step c s t) t ≡ (core_line t (core_of s t) (line_of c s t)).position
  position_same s h = get_or-set_same s.positions t _ 0 h

  -- a line of weight 1 is counted
  next_counts : (us : List ℕ) (s : CodeState) → weight_of (line_of c s t) ≡ 1 → 1 ≤ count_of t (core_lifted c s (us ++ t ∷ []))
  next_counts [] s w =
      let e : count_of t (replicate (weight_of (line_of c s t)) t ++ []) ≡ 1 + 0 = count_append t (replicate (weight_of (line_of c s t)) t) [] ∙ ap₂ ◌+◌ (count_same t _ ∙ w) refl in
      omega arith
  next_counts (u ∷ us) s w = go (ℕ_discrete u t) (λ n. next_counts us (core_step c s u) (ap (λ i. weight_of (slice_get (lines_of c t) i)) (position_other s u n) ∙ w))
    where
      go : Dec (u ≡ t) → (u ≢ t → 1 ≤ count_of t (core_lifted c (core_step c s u) (us ++ t ∷ [])))
          → 1 ≤ count_of t (replicate (weight_of (line_of c s u)) u ++ core_lifted c (core_step c s u) (us ++ t ∷ []))
      go (yes e) ih =
          let k : count_of t (replicate (weight_of (line_of c s u)) u) ≡ 1 = subst (λ u. count_of t (replicate (weight_of (line_of c s u)) u) ≡ 1) (sym e) (count_same t (weight_of (line_of c s t)) ∙ w) in
          rw count_append (omega arith)
      go (no n) ih = let k = ih n in rw count_append (omega arith)

  straight_next : (x : Core) (i : Instr) → IsStraight i → (core_instr t x i).position ≡ suc x.position
  straight_next x (Load d k) s = refl
  straight_next x (MovC d k) s = refl
  straight_next x (MovR d k) s = refl
  straight_next x (Bin o d k) s = refl
  straight_next x (Store k d) s = absurd s
  straight_next x (Jump k) s = absurd s
  straight_next x (Jz d k) s = absurd s
  straight_next x Nop s = absurd s
  straight_next x (Acquire l) s = absurd s
  straight_next x (Release l) s = absurd s
  straight_next x (Out d) s = absurd s

  -- after a line of weight 0: ahead, or before a line of weight 1
  ahead_instr : (x : Core) (i : Instr) → Leads (lines_of c t) x.position i
      → (suc x.position ≤ (core_instr t x i).position) ⊎ (weight_of (slice_get (lines_of c t) (core_instr t x i).position) ≡ 1)
  ahead_instr x (Jump k) (inl h) = inl h
  ahead_instr x (Jump k) (inr (i, e)) = inr (ap weight_of e)
  ahead_instr x (Load d k) s = inl (le_refl _)
  ahead_instr x (MovC d k) s = inl (le_refl _)
  ahead_instr x (MovR d k) s = inl (le_refl _)
  ahead_instr x (Bin o d k) s = inl (le_refl _)
  ahead_instr x (Store k d) s = absurd s
  ahead_instr x (Jz d k) s = absurd s
  ahead_instr x Nop s = absurd s
  ahead_instr x (Acquire l) s = absurd s
  ahead_instr x (Release l) s = absurd s
  ahead_instr x (Out d) s = absurd s

  ahead_line : (x : Core) (o : Option Line) → slice_get (lines_of c t) x.position ≡ o → weight_of o ≡ 0
      → (length (lines_of c t) ≤ x.position) × ((core_line t x o).position ≡ x.position)
      ⊎ (suc x.position ≤ (core_line t x o).position) ⊎ (weight_of (slice_get (lines_of c t) (core_line t x o).position) ≡ 1)
  ahead_line x None e w = inl (none_past (lines_of c t) x.position e, refl)
  ahead_line x (Some l) e w = inr (ahead_instr x l.instr (⊎_elim (λ k. k.1) (λ (k : 1 ≤ l.weight). absurd (omega arith)) (forward x.position l e)))

  -- an entry of t that makes no source step leads on
  ahead_own : (us : List ℕ) (s : CodeState) → t < length s.positions
      → count_of t (replicate (weight_of (line_of c s t)) t ++ core_lifted c (core_step c s t) (us ++ t ∷ [])) ≡ 0
      → ¬ IsPast c (core_from c (core_step c s t) us) t
      → (count_of t (core_lifted c (core_step c s t) (us ++ t ∷ [])) ≡ 0 → position (core_step c s t) t + count_of t us ≤ position (core_from c (core_step c s t) us) t)
      → position s t + suc (count_of t us) ≤ position (core_from c (core_step c s t) us) t
  ahead_own us s h k n ih = go (ahead_line (core_of s t) (line_of c s t) refl no_weight)
    where
      split : weight_of (line_of c s t) + count_of t (core_lifted c (core_step c s t) (us ++ t ∷ [])) ≡ 0
      split = sym (count_append t (replicate (weight_of (line_of c s t)) t) (core_lifted c (core_step c s t) (us ++ t ∷ []))
          ∙ ap (λ n. n + count_of t (core_lifted c (core_step c s t) (us ++ t ∷ []))) (count_same t (weight_of (line_of c s t)))) ∙ k

      no_weight : weight_of (line_of c s t) ≡ 0
      no_weight = omega (arith, split)

      next : position (core_step c s t) t + count_of t us ≤ position (core_from c (core_step c s t) us) t
      next = ih (omega (arith, split))

      now_at : position (core_step c s t) t ≡ (core_line t (core_of s t) (line_of c s t)).position
      now_at = position_same s h

      go : (length (lines_of c t) ≤ position s t) × ((core_line t (core_of s t) (line_of c s t)).position ≡ position s t)
          ⊎ (suc (position s t) ≤ (core_line t (core_of s t) (line_of c s t)).position) ⊎ (weight_of (slice_get (lines_of c t) (core_line t (core_of s t) (line_of c s t)).position) ≡ 1)
          → position s t + suc (count_of t us) ≤ position (core_from c (core_step c s t) us) t
      go (inl e) = absurd (n (let a = e.0 in let b = e.1 in let x = now_at in let y = next in omega arith))
      go (inr (inl e)) = let x = now_at in let y = next in omega arith
      go (inr (inr e)) =
          let x = next_counts us (core_step c s t) (ap (λ i. weight_of (slice_get (lines_of c t) i)) now_at ∙ e) in
          let y = split in
          absurd (omega arith)

  counted : (s : CodeState) (u : ℕ) (us : List ℕ) (b : Bool) → (u == t) ≡ b → (z : ℕ) → position s t + (if b then suc (count_of t us) else count_of t us) ≤ z
      → position s t + count_of t (u ∷ us) ≤ z
  counted s u us b e z h = subst (λ b. position s t + (if b then suc (count_of t us) else count_of t us) ≤ z) (sym e) h

  -- without a source step, each entry leads on
  pub ahead : (us : List ℕ) (s : CodeState) → t < length s.positions → count_of t (core_lifted c s (us ++ t ∷ [])) ≡ 0 → ¬ IsPast c (core_from c s us) t
      → position s t + count_of t us ≤ position (core_from c s us) t
  ahead [] s h k n = omega arith
  ahead (u ∷ us) s h k n = go (ℕ_discrete u t) (λ z. ahead us (core_step c s u) (rw length-set h) z n)
    where
      Rest : ℕ → Type 0
      Rest u = count_of t (core_lifted c (core_step c s u) (us ++ t ∷ [])) ≡ 0 → position (core_step c s u) t + count_of t us ≤ position (core_from c (core_step c s u) us) t

      go : Dec (u ≡ t) → Rest u → position s t + count_of t (u ∷ us) ≤ position (core_from c (core_step c s u) us) t
      go (no d) ih =
          let split : count_of t (replicate (weight_of (line_of c s u)) u) + count_of t (core_lifted c (core_step c s u) (us ++ t ∷ [])) ≡ 0
          = sym (count_append t (replicate (weight_of (line_of c s u)) u) (core_lifted c (core_step c s u) (us ++ t ∷ []))) ∙ k in
          counted s u us false (ne_eqb u t d) _ (subst (λ i. i + count_of t us ≤ position (core_from c (core_step c s u) us) t) (position_other s u d) (ih (omega arith)))
      go (yes d) ih =
          counted s u us true (eq-eqb u t d) _
          (subst (λ u. count_of t (replicate (weight_of (line_of c s u)) u ++ core_lifted c (core_step c s u) (us ++ t ∷ [])) ≡ 0
          → ¬ IsPast c (core_from c (core_step c s u) us) t → Rest u → position s t + suc (count_of t us) ≤ position (core_from c (core_step c s u) us) t)
          (sym d) (ahead_own us s h) k n ih)

  -- n + 1 entries of an unfinished thread make a source step
  pub no_spin : (us : List ℕ) (s : CodeState) → t < length s.positions → count_of t us ≡ length (lines_of c t) → ¬ IsPast c (core_from c s us) t
      → 1 ≤ count_of t (core_lifted c s (us ++ t ∷ []))
  no_spin us s h k n = go (count_of t (core_lifted c s (us ++ t ∷ []))) refl
    where
      go : (z : ℕ) → count_of t (core_lifted c s (us ++ t ∷ [])) ≡ z → 1 ≤ count_of t (core_lifted c s (us ++ t ∷ []))
      go zero e = absurd (n (let a = ahead us s h e n in omega arith))
      go (suc z) e = omega arith

  -- where t makes no source step any more, it finishes
  pub finishes : (us : List ℕ) (s : CodeState) → t < length s.positions → count_of t (core_lifted c s (us ++ t ∷ [])) ≡ 0 → length (lines_of c t) ≤ count_of t us
      → IsPast c (core_from c s us) t
  finishes us s h k n = go (dec_le (length (lines_of c t)) (position (core_from c s us) t))
    where
      go : Dec (length (lines_of c t) ≤ position (core_from c s us) t) → IsPast c (core_from c s us) t
      go (yes e) = e
      go (no e) = let a = ahead us s h k e in omega arith

-- A thread with no item left --------------------------------------------------------------------------------------

end_weight : (lines : List Line) {i : ℕ} → Reach lines (λ j. j ≡ length lines) i → weight_of (slice_get lines i) ≡ 0
end_weight lines (here e) = ap weight_of (ap (slice_get lines) e ∙ slice_get_past lines (length lines) (le_refl _))
end_weight lines (hop e s) = ap weight_of e

idle_weight : (p : Plain) (t : ℕ) (lines : List Line) (x : Core) (is : List Item) → Stands p t lines x is → is ≡ [] → weight_of (slice_get lines x.position) ≡ 0
idle_weight p t lines x [] (ready r) e = end_weight lines r.code
idle_weight p t lines x (i ∷ is) k e = absurd cc

module _ (p : Plain) (sets : (t : ℕ) → AreSets p t) (apart : HasCompatibleModes p) (c : Parts) (t : ℕ) (t_in : t < length p.threads) where
  idle_next : (s : CodeState) (js : List (List Item)) (u : ℕ) (u_in : u < length p.threads) (k : Coupled p sets apart c s js) → get_or js t [] ≡ []
      → get_or (next_items p sets apart c s js u u_in k) t [] ≡ []
  idle_next s js u u_in k e = go (ℕ_discrete t u)
    where
      at_u : t ≡ u → get_or js u [] ≡ []
      at_u i = subst (λ t. get_or js t [] ≡ []) i e

      left : t ≡ u → (now p sets apart c s js u u_in k).next.items ≡ []
      left i =
          let n = now p sets apart c s js u u_in k in
          let z = idle_weight p u (lines_of c u) (core_of s u) (get_or js u []) (k.stands u u_in) (at_u i) in
          ap (λ (x : Local). x.items) (n.turns ∙ ap (λ w. turned u w (local s.memory s.holders s.outputs (get_or js u []))) z) ∙ at_u i

      go : Dec (t ≡ u) → get_or (next_items p sets apart c s js u u_in k) t [] ≡ []
      go (no n) = next_other p sets apart c s js u u_in k t n ∙ e
      go (yes i) = ap (λ t. get_or (next_items p sets apart c s js u u_in k) t []) i ∙ next_is p sets apart c s js u u_in k ∙ left i

  pub idle : (us : List ℕ) (s : CodeState) (js : List (List Item)) → IsSchedule (length p.threads) us → Coupled p sets apart c s js → get_or js t [] ≡ []
      → count_of t (core_lifted c s us) ≡ 0
  idle [] s js h k e = refl
  idle (u ∷ us) s js h k e =
      count_append t (replicate (weight_of (line_of c s u)) u) (core_lifted c (core_step c s u) us)
      ∙ ap₂ ◌+◌ (go (ℕ_discrete u t)) (idle us (core_step c s u) (next_items p sets apart c s js u h.0 k) h.1 (coupled_step p sets apart c s js u h.0 k) (idle_next s js u h.0 k e))
    where
      go : Dec (u ≡ t) → count_of t (replicate (weight_of (line_of c s u)) u) ≡ 0
      go (no n) = count_other t u _ n
      go (yes i) = ap (λ w. count_of t (replicate w u))
          (subst (λ u. weight_of (line_of c s u) ≡ 0) (sym i) (idle_weight p t (lines_of c t) (core_of s t) (get_or js t []) (k.stands t t_in) e))
