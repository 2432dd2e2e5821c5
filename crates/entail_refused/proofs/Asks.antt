-- The obligations of a thread that ask that something follows and the entailments of the thread go in step: each has the place and
-- the number of the other, and holds where the certificate that is given there is valid.
use Rattle.std.proofs.Common.{◌≡◌, ℕ, suc, ◌+◌, ◌&&◌, List, [], ◌∷◌, ◌++◌, length, map, Bool, true, false, cond, if◌then◌else◌, refl, sym, ap, ◌∙◌, arith, Option, Some}
use Rattle.std.proofs.lemmas.List.{append-nil, map-append}
use Rattle.cov_expr.specs.Term.{neg}
use Rattle.cov_expr.specs.Trees.{vars}
use Rattle.cov_ast.specs.Declarations.{is_control}
use Rattle.cov_ast.specs.Obligations.{Obligation}
use Rattle.cov_ast.specs.Plain.{Plain}
use Rattle.cov_ast.specs.Syntax.{Proof, Stm, assign, lock, branch, loop, note, output, Block, done, more}
use Rattle.cov_ast.specs.declared.refusal.Detail.{Detail}
use Rattle.cov_ast.specs.declared.refusal.Detail.TheVariants.{Number}
use Rattle.cov_ast.specs.declared.refusal.Rule.TheVariants.{V2, V5}
use Rattle.mode_state.specs.Sets.{is_stable, may_write}
use Rattle.point_law.specs.After.{after_assign, meet, noted, with_guard}
use Rattle.point_law.specs.Point.{Point, is_tracked}
use Rattle.typing_law.specs.Blocks.{after_block, after_stm, value_type}
use Rattle.typing_law.specs.Counts.{entailment_count, is_entailment}
use Rattle.typing_law.specs.Entailments.{Entailment, assign_entailments, guard_follows, is_proved, state_follows}
use Rattle.typing_law.specs.ThreadEntailments.{PlacedEntailment, block_entailments, placed_from, placed_proofs, proofs_within, stm_entailments}
use Rattle.typing_law.specs.ThreadObligations.{block_obligations, few_preds, flat, guard_obligations, narrow, numbers, of_var, one_unstable, over_controls, proved, reads, same_locks, small_terms, state_obligations, stm_parts, type_obligations}
use Rattle.typing_law.proofs.Counting.{count_cons, count_guard, count_numbers, count_reads, count_stable, count_state, count_types}
use Rattle.entail_origins.specs.OwnEntailments.{own_entailments}
use Rattle.entail_refused.proofs.GivenProofs.{AreGiven, given_left, given_right}

-- of which thread something is asked, where, by which detail, and whether it holds
abbrev pub Ask : Type 0
Ask = Option ℕ × ℕ × Detail × Bool

abbrev pub ask : Obligation → Ask
ask e = (e.refusal.thread, e.refusal.place, e.refusal.detail, e.holds)

-- what obligations ask to follow
abbrev pub asks : List Obligation → List Ask
asks [] = []
asks (e ∷ es) = if is_entailment e.refusal.rule then ask e ∷ asks es else asks es

pub asks-append : (a b : List Obligation) → asks (a ++ b) ≡ asks a ++ asks b
asks-append [] b = refl
asks-append (e ∷ es) b = go (asks-append es b) (is_entailment e.refusal.rule)
  where
    go : asks (es ++ b) ≡ asks es ++ asks b → (s : Bool)
        → cond s (ask e ∷ asks (es ++ b)) (asks (es ++ b))
        ≡ cond s (ask e ∷ asks es) (asks es) ++ asks b
    go h true = ap (λ l. ask e ∷ l) h
    go h false = h

asks_none : (o : List Obligation) → entailment_count o ≡ 0 → asks o ≡ []
asks_none [] h = refl
asks_none (e ∷ es) h = go (λ k. asks_none es k) (is_entailment e.refusal.rule) refl
  where
    go : (entailment_count es ≡ 0 → asks es ≡ []) → (s : Bool) → is_entailment e.refusal.rule ≡ s → cond s (ask e ∷ asks es) (asks es) ≡ []
    go rest true is =
        let one : entailment_count (e ∷ []) ≡ 1 = ap (λ s. 0 + cond s 1 0) is in
        let no : ◌≡◌ {A = ℕ} 0 1 = omega (arith, count_cons e es, one, h) in cc
    go rest false is = rest (omega (arith, count_cons e es, h))

-- behind obligations that ask nothing to follow
asks_behind : (o rest : List Obligation) → entailment_count o ≡ 0 → asks (o ++ rest) ≡ asks rest
asks_behind o rest h = asks-append o rest ∙ ap (λ l. l ++ asks rest) (asks_none o h)

-- in front of obligations that ask nothing to follow
pub asks_before : (o rest : List Obligation) (l : List Ask) → asks rest ≡ [] → asks o ≡ l → asks (o ++ rest) ≡ l
asks_before o rest l h k = asks-append o rest ∙ ap (λ m. asks o ++ m) h ∙ append-nil (asks o) ∙ k

module _ (given : ℕ → List Proof) (t : ℕ) where
  -- what the obligation of an entailment asks
  abbrev pub ask_of : PlacedEntailment → Ask
  ask_of g = (Some t, g.place, Number g.number, is_proved (given g.place) g.number g.entailment)

  abbrev GoInStep : List Obligation → List PlacedEntailment → Type 0
  GoInStep o a = asks o ≡ map ask_of a

  step_then : (o1 o2 : List Obligation) (a1 a2 : List PlacedEntailment) → GoInStep o1 a1 → GoInStep o2 a2 → GoInStep (o1 ++ o2) (a1 ++ a2)
  step_then o1 o2 a1 a2 h k = asks-append o1 o2 ∙ (λ i. h i ++ k i) ∙ sym (map-append ask_of a1 a2)

  module _ (p : Plain) (at : ℕ) (proofs : List Proof) (here : given at ≡ proofs) where
    step_proved : (n : ℕ) (gs : List Entailment) → GoInStep (proved p t at proofs n gs) (placed_from at n gs)
    step_proved n [] = refl
    step_proved n (g ∷ gs) = λ i. (Some t, at, Number n, is_proved (sym here i) n g) ∷ step_proved (suc n) gs i

    -- entailments, and then V13
    step_last : (n count : ℕ) (gs : List Entailment) → GoInStep (proved p t at proofs n gs ++ (numbers p t at count proofs ++ [])) (placed_from at n gs)
    step_last n count gs =
        asks_before (proved p t at proofs n gs) (numbers p t at count proofs ++ []) (map ask_of (placed_from at n gs))
        (asks_behind (numbers p t at count proofs) [] (count_numbers p t at count proofs)) (step_proved n gs)

  module _ (p : Plain) where
    mutual
      pub stm_step : (s : Stm) (at : ℕ) (proofs : List Proof) (a : Point) → given at ≡ proofs → AreGiven given (proofs_within s)
          → GoInStep (flat (stm_parts p t s at proofs a)) (stm_entailments p t s at a)
      stm_step (assign x e q retypes) at proofs a here inside =
          let gs = assign_entailments p t a x e q retypes in
          let last = proved p t at proofs 1 gs ++ (numbers p t at (length gs) proofs ++ []) in
          let after = after_assign p t a x e (value_type p t a q e) retypes in
          let sized = few_preds p t at (after ∷ []) ++ (small_terms p t at gs (after ∷ []) ++ last) in
          let test = λ (z : ℕ). is_control p x && is_tracked p t a.held z in
          let types = type_obligations p t at test a.held [] retypes in
          let stable = if is_control p x then map (of_var p t at V5 (is_stable p t a.held)) (vars e) else [] in
          let typed = (over_controls p t at a.held (value_type p t a q e) ∷ []) ++ (stable ++ (types ++ sized)) in
          let rest = (of_var p t at V2 (may_write p t a.held) x ∷ []) ++ (one_unstable p t at a.held e ++ (narrow p t at e ++ typed)) in
          asks_behind (reads p t at a.held e) rest (count_reads p t at a.held e)
          ∙ asks_behind stable (types ++ sized) (count_stable p t at a.held (is_control p x) e)
          ∙ asks_behind types sized (count_types p t at test a.held [] retypes) ∙ step_last p at proofs here 1 (length gs) gs
      stm_step (lock l) at proofs a here inside = refl
      stm_step (branch e yes_block no_block join) at proofs a here inside =
          let yes_start = with_guard p t a e in
          let no_start = with_guard p t a (neg e) in
          let yes_end = after_block p t yes_block yes_start in
          let no_end = after_block p t no_block no_start in
          let gs = guard_follows p t a e ∷ [] in
          let hs = state_follows yes_end join ++ state_follows no_end join in
          let yes = block_obligations p t yes_block yes_start in
          let no = block_obligations p t no_block no_start in
          let last = proved p t at proofs (suc (length gs)) hs ++ (numbers p t at (length gs + length hs) proofs ++ []) in
          let sized = small_terms p t at hs (meet p t yes_end join ∷ []) ++ last in
          let joined = same_locks p t at yes_end.held no_end.held ++ (state_obligations p t at yes_end.held join ++ sized) in
          let blocks = yes ++ (no ++ joined) in
          let few = few_preds p t at (yes_start ∷ no_start ∷ []) ++ (small_terms p t at gs [] ++ (proved p t at proofs 1 gs ++ blocks)) in
          let yes_asks = block_entailments p t yes_block yes_start in
          let no_asks = block_entailments p t no_block no_start in
          let last_asks = placed_from at (suc (length gs)) hs in
          let behind : GoInStep joined last_asks =
          asks_behind (state_obligations p t at yes_end.held join) sized (count_state p t at yes_end.held join)
          ∙ step_last p at proofs here (suc (length gs)) (length gs + length hs) hs in
          let first = block_step yes_block yes_start (given_left given (placed_proofs yes_block) (placed_proofs no_block) inside) in
          let second = block_step no_block no_start (given_right given (placed_proofs yes_block) (placed_proofs no_block) inside) in
          asks_behind (guard_obligations p t at a.held e) few (count_guard p t at a.held e)
          ∙ step_then (proved p t at proofs 1 gs) blocks (placed_from at 1 gs) (yes_asks ++ (no_asks ++ last_asks)) (step_proved p at proofs here 1 gs)
          (step_then yes (no ++ joined) yes_asks (no_asks ++ last_asks) first (step_then no joined no_asks last_asks second behind))
      stm_step (loop e inv b) at proofs a here inside =
          let head = meet p t a inv in
          let body_start = with_guard p t head e in
          let body_end = after_block p t b body_start in
          let after = with_guard p t head (neg e) in
          let gs = state_follows a inv ++ guard_follows p t head e ∷ [] in
          let hs = state_follows body_end inv in
          let body = block_obligations p t b body_start in
          let last = proved p t at proofs (suc (length gs)) hs ++ (numbers p t at (length gs + length hs) proofs ++ []) in
          let turned = same_locks p t at body_end.held a.held ++ (small_terms p t at hs (after ∷ []) ++ last) in
          let entered = proved p t at proofs 1 gs ++ (body ++ turned) in
          let few = few_preds p t at (body_start ∷ after ∷ []) ++ (small_terms p t at gs [] ++ entered) in
          let body_asks = block_entailments p t b body_start in
          let last_asks = placed_from at (suc (length gs)) hs in
          asks_behind (state_obligations p t at a.held inv) (guard_obligations p t at a.held e ++ few) (count_state p t at a.held inv)
          ∙ asks_behind (guard_obligations p t at a.held e) few (count_guard p t at a.held e)
          ∙ step_then (proved p t at proofs 1 gs) (body ++ turned) (placed_from at 1 gs) (body_asks ++ last_asks) (step_proved p at proofs here 1 gs)
          (step_then body turned body_asks last_asks (block_step b body_start inside)
          (step_last p at proofs here (suc (length gs)) (length gs + length hs) hs))
      stm_step (note j) at proofs a here inside =
          let gs = state_follows a j in
          let last = proved p t at proofs 1 gs ++ (numbers p t at (length gs) proofs ++ []) in
          asks_behind (state_obligations p t at a.held j) (small_terms p t at gs (noted a j ∷ []) ++ last) (count_state p t at a.held j)
          ∙ step_last p at proofs here 1 (length gs) gs
      stm_step (output e) at proofs a here inside =
          let gs = guard_follows p t a e ∷ [] in
          let last = proved p t at proofs 1 gs ++ (numbers p t at (length gs) proofs ++ []) in
          asks_behind (guard_obligations p t at a.held e) (small_terms p t at gs (a ∷ []) ++ last) (count_guard p t at a.held e)
          ∙ step_last p at proofs here 1 (length gs) gs
      stm_step s at proofs a here inside = let gs = own_entailments p t s a in step_last p at proofs here 1 (length gs) gs

      pub block_step : (b : Block) (a : Point) → AreGiven given (placed_proofs b) → GoInStep (block_obligations p t b a) (block_entailments p t b a)
      block_step done a h = refl
      block_step (more at s proofs b) a h =
          step_then (flat (stm_parts p t s at proofs a)) (block_obligations p t b (after_stm p t s a)) (stm_entailments p t s at a)
          (block_entailments p t b (after_stm p t s a)) (stm_step s at proofs a h.0 (given_left given (proofs_within s) (placed_proofs b) h.1))
          (block_step b (after_stm p t s a) (given_right given (proofs_within s) (placed_proofs b) h.1))
