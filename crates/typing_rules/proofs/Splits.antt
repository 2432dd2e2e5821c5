-- Branches and loops: what stands before their blocks, the blocks, and what stands behind.
use Rattle.std.proofs.Common.{◌≡◌, ℕ, suc, List, [], ◌∷◌, ◌++◌, length, true, refl, sym, ap, ◌∙◌, subst, arith, append_assoc, Result, Ok, Err}
use Rattle.std.specs.Result.{IsErrAnd}
use Rattle.cov_expr.specs.Term.{Term, neg}
use Rattle.cov_ast.specs.Obligations.{Obligation}
use Rattle.cov_ast.specs.Plain.{Plain}
use Rattle.cov_ast.specs.Syntax.{State, Proof, Block, branch, loop}
use Rattle.cov_ast.specs.declared.refusal.CheckFault.{CheckFault}
use Rattle.point_law.specs.After.{with_guard, meet}
use Rattle.point_law.specs.Point.{Point}
use Rattle.typing_law.specs.Counts.{entailment_count}
use Rattle.typing_law.specs.Blocks.{after_block, after_stm}
use Rattle.typing_law.specs.Entailments.{Entailment, guard_follows, state_follows}
use Rattle.typing_law.specs.ThreadEntailments.{PlacedEntailment, block_entailments, placed_from, stm_entailments}
use Rattle.typing_law.specs.ThreadObligations.{block_obligations, few_preds, flat, guard_obligations, proved, small_terms, state_obligations, stm_parts}
use Rattle.typing_rules.specs.declared.kept.Kept.{Kept}
use Rattle.typing_law.proofs.Counting.{block_counted, count_append, placed_length}
use Rattle.typing_rules.specs.Keeping.{are_others}
use Rattle.typing_rules.specs.Inside.Passing.{Passes, Stops}
use Rattle.typing_rules.specs.Inside.Walking.{Walks, fork_parts, head_parts, join_parts, turn_parts}
use Rattle.typing_rules.specs.declared.purpose.Purpose.{Purpose}
use Rattle.typing_rules.specs.declared.walk.Walked.{Walked}
use Rattle.typing_rules.proofs.Concluding.{asked_counted}
use Rattle.typing_rules.proofs.Others.{others_guard, others_state}
use Rattle.typing_rules.proofs.Parts.{flat-append}
use Rattle.typing_rules.proofs.Reaching.{others-append, others_counted, stops_behind, walks_then}

-- a fault that is handed on
handed_on : (u : Purpose) (p : Plain) (t : ℕ) (o : List Obligation) (a : List PlacedEntailment) (end : Point) (counted : ℕ) (k0 k1 : List Kept) (fault : CheckFault)
    (r : Result Walked CheckFault) → IsErrAnd r (λ f. f ≡ fault) → Stops u o a k0 k1 fault → Walks u p t o a end counted k0 k1 r
handed_on u p t o a end counted k0 k1 fault (Ok walked) h k = absurd h
handed_on u p t o a end counted k0 k1 fault (Err f) h k = subst (λ f. Stops u o a k0 k1 f) (sym h) k

-- so many entailments come before a block
before_counted : (p : Plain) (t at : ℕ) (front : List Obligation) → are_others front ≡ true → (points : List Point) (proofs : List Proof) (gs : List Entailment)
    → entailment_count (front ++ (few_preds p t at points ++ (small_terms p t at gs [] ++ (proved p t at proofs 1 gs ++ [])))) ≡ length (placed_from at 1 gs)
before_counted p t at front others points proofs gs =
    let few = few_preds p t at points in
    let small = small_terms p t at gs [] in
    let asked = proved p t at proofs 1 gs ++ [] in
    let one : entailment_count few ≡ 0 = refl in
    let two : entailment_count small ≡ 0 = refl in
    omega (
      arith,
      count_append front (few ++ (small ++ asked)),
      count_append few (small ++ asked),
      count_append small asked,
      others_counted front others,
      one,
      two,
      asked_counted p t at proofs 1 gs,
      placed_length at 1 gs,
    )

module _ (u : Purpose) (p : Plain) (t at : ℕ) (proofs : List Proof) (a : Point) (e : Term) (yes_block no_block : Block) (j : State) where
  abbrev forked : List (List Obligation)
  forked = fork_parts p t at proofs a e (with_guard p t a e ∷ with_guard p t a (neg e) ∷ [])

  abbrev first : List Obligation
  first = block_obligations p t yes_block (with_guard p t a e)

  abbrev second : List Obligation
  second = block_obligations p t no_block (with_guard p t a (neg e))

  abbrev joined : (before : ℕ) → List (List Obligation)
  joined before = join_parts p t at proofs before j (after_block p t yes_block (with_guard p t a e)) (after_block p t no_block (with_guard p t a (neg e)))

  abbrev fork_asks : List PlacedEntailment
  fork_asks = placed_from at 1 (guard_follows p t a e ∷ [])

  abbrev first_asks : List PlacedEntailment
  first_asks = block_entailments p t yes_block (with_guard p t a e)

  abbrev second_asks : List PlacedEntailment
  second_asks = block_entailments p t no_block (with_guard p t a (neg e))

  abbrev join_asks : (before : ℕ) → List PlacedEntailment
  join_asks before = placed_from at (suc before)
      (state_follows (after_block p t yes_block (with_guard p t a e)) j ++ state_follows (after_block p t no_block (with_guard p t a (neg e))) j)

  abbrev branch_end : Point
  branch_end = after_stm p t (branch e yes_block no_block j) a

  abbrev branch_obligations : List Obligation
  branch_obligations = flat (stm_parts p t (branch e yes_block no_block j) at proofs a)

  -- the answer about the branch
  abbrev BranchWalks : (counted : ℕ) → (before after : List Kept) → Result Walked CheckFault → Type 0
  BranchWalks counted before after r = Walks u p t branch_obligations (stm_entailments p t (branch e yes_block no_block j) at a) branch_end counted before after r

  fork_counted : entailment_count (flat forked) ≡ length fork_asks
  fork_counted =
      before_counted p t at (guard_obligations p t at a.held e) (others_guard p t at a.held e) (with_guard p t a e ∷ with_guard p t a (neg e) ∷ []) proofs (guard_follows p t a e ∷ [])

  whole : (counted : ℕ) (before after : List Kept) (r : Result Walked CheckFault)
      → Walks u p t (flat forked ++ (first ++ (second ++ flat (joined 1)))) (fork_asks ++ (first_asks ++ (second_asks ++ join_asks 1))) branch_end counted before after r
      → BranchWalks counted before after r
  whole counted before after r h =
      subst (λ o. Walks u p t o (fork_asks ++ (first_asks ++ (second_asks ++ join_asks 1))) branch_end counted before after r) (sym (flat-append forked (first ∷ second ∷ joined 1))) h

  -- Where a part refuses, the branch does.
  pub fork_refused : (counted : ℕ) (k0 k1 : List Kept) (fault : CheckFault) (r : Result Walked CheckFault) → IsErrAnd r (λ f. f ≡ fault) → Stops u (flat forked) fork_asks k0 k1 fault
      → BranchWalks counted k0 k1 r
  fork_refused counted k0 k1 fault r is h =
      whole counted k0 k1 r
      (handed_on u p t (flat forked ++ (first ++ (second ++ flat (joined 1)))) (fork_asks ++ (first_asks ++ (second_asks ++ join_asks 1))) branch_end counted k0 k1 fault r is
      (stops_behind u (flat forked) (first ++ (second ++ flat (joined 1))) fork_asks (first_asks ++ (second_asks ++ join_asks 1)) fork_counted k0 k1 fault h))

  module _ (k0 k1 : List Kept) (held : Passes u (flat forked) fork_asks k0 k1) where
    behind_fork : (counted : ℕ) (k : List Kept) (r : Result Walked CheckFault)
        → Walks u p t (first ++ (second ++ flat (joined 1))) (first_asks ++ (second_asks ++ join_asks 1)) branch_end counted k1 k r → BranchWalks counted k0 k r
    behind_fork counted k r h =
        whole counted k0 k r
        (walks_then u (flat forked) (first ++ (second ++ flat (joined 1))) fork_asks (first_asks ++ (second_asks ++ join_asks 1)) fork_counted p t branch_end counted k0 k1 k r held h)

    pub first_refused : (counted : ℕ) (k2 : List Kept) (fault : CheckFault) (r : Result Walked CheckFault) → IsErrAnd r (λ f. f ≡ fault) → Stops u first first_asks k1 k2 fault
        → BranchWalks counted k0 k2 r
    first_refused counted k2 fault r is h =
        behind_fork counted k2 r
        (handed_on u p t (first ++ (second ++ flat (joined 1))) (first_asks ++ (second_asks ++ join_asks 1)) branch_end counted k1 k2 fault r is
        (stops_behind u first (second ++ flat (joined 1)) first_asks (second_asks ++ join_asks 1) (block_counted p t yes_block (with_guard p t a e)) k1 k2 fault h))

    module _ (k2 : List Kept) (first_held : Passes u first first_asks k1 k2) where
      behind_first : (counted : ℕ) (k : List Kept) (r : Result Walked CheckFault)
          → Walks u p t (second ++ flat (joined 1)) (second_asks ++ join_asks 1) branch_end counted k2 k r → BranchWalks counted k0 k r
      behind_first counted k r h =
          behind_fork counted k r
          (walks_then u first (second ++ flat (joined 1)) first_asks (second_asks ++ join_asks 1) (block_counted p t yes_block (with_guard p t a e))
          p t branch_end counted k1 k2 k r first_held h)

      pub second_refused : (counted : ℕ) (k3 : List Kept) (fault : CheckFault) (r : Result Walked CheckFault) → IsErrAnd r (λ f. f ≡ fault) → Stops u second second_asks k2 k3 fault
          → BranchWalks counted k0 k3 r
      second_refused counted k3 fault r is h =
          behind_first counted k3 r
          (handed_on u p t (second ++ flat (joined 1)) (second_asks ++ join_asks 1) branch_end counted k2 k3 fault r is
          (stops_behind u second (flat (joined 1)) second_asks (join_asks 1) (block_counted p t no_block (with_guard p t a (neg e))) k2 k3 fault h))

      pub branch_walks : (k3 k4 : List Kept) → Passes u second second_asks k2 k3 → (r : Result Walked CheckFault) (before counted : ℕ) → before ≡ 1
          → counted ≡ entailment_count branch_obligations → Walks u p t (flat (joined before)) (join_asks before) branch_end counted k3 k4 r
          → BranchWalks (entailment_count branch_obligations) k0 k4 r
      branch_walks k3 k4 second_held r before counted one is w =
          subst (λ n. BranchWalks n k0 k4 r) is
          (behind_first counted k4 r
          (walks_then u second (flat (joined 1)) second_asks (join_asks 1) (block_counted p t no_block (with_guard p t a (neg e))) p t branch_end counted k2 k3 k4 r second_held
          (subst (λ n. Walks u p t (flat (joined n)) (join_asks n) branch_end counted k3 k4 r) one w)))

module _ (u : Purpose) (p : Plain) (t at : ℕ) (proofs : List Proof) (a : Point) (e : Term) (j : State) (b : Block) where
  abbrev entered : List Entailment
  entered = state_follows a j ++ guard_follows p t (meet p t a j) e ∷ []

  abbrev headed : List (List Obligation)
  headed = head_parts p t at proofs a j e (with_guard p t (meet p t a j) e ∷ with_guard p t (meet p t a j) (neg e) ∷ [])

  abbrev turn : List Obligation
  turn = block_obligations p t b (with_guard p t (meet p t a j) e)

  abbrev turned : (before : ℕ) → List (List Obligation)
  turned before =
      turn_parts p t at proofs before j
      (after_block p t b (with_guard p t (meet p t a j) e)) (with_guard p t (meet p t a j) (neg e))

  abbrev head_asks : List PlacedEntailment
  head_asks = placed_from at 1 entered

  abbrev turn_asks : List PlacedEntailment
  turn_asks = block_entailments p t b (with_guard p t (meet p t a j) e)

  abbrev last_asks : (before : ℕ) → List PlacedEntailment
  last_asks before = placed_from at (suc before) (state_follows (after_block p t b (with_guard p t (meet p t a j) e)) j)

  abbrev loop_end : Point
  loop_end = after_stm p t (loop e j b) a

  abbrev loop_obligations : List Obligation
  loop_obligations = flat (stm_parts p t (loop e j b) at proofs a)

  -- the answer about the loop
  abbrev LoopWalks : (counted : ℕ) → (before after : List Kept) → Result Walked CheckFault → Type 0
  LoopWalks counted before after r = Walks u p t loop_obligations (stm_entailments p t (loop e j b) at a) loop_end counted before after r

  head_counted : entailment_count (flat headed) ≡ length head_asks
  head_counted =
      let stated = state_obligations p t at a.held j in
      let evaluated = guard_obligations p t at a.held e in
      let points = with_guard p t (meet p t a j) e ∷ with_guard p t (meet p t a j) (neg e) ∷ [] in
      ap entailment_count (sym (append_assoc stated evaluated (few_preds p t at points ++ (small_terms p t at entered [] ++ (proved p t at proofs 1 entered ++ [])))))
      ∙ before_counted p t at (stated ++ evaluated) (others-append stated evaluated (others_state p t at a.held j) (others_guard p t at a.held e)) points proofs entered

  loop_whole : (counted : ℕ) (before after : List Kept) (r : Result Walked CheckFault)
      → Walks u p t (flat headed ++ (turn ++ flat (turned (length entered)))) (head_asks ++ (turn_asks ++ last_asks (length entered))) loop_end counted before after r
      → LoopWalks counted before after r
  loop_whole counted before after r h =
      subst (λ o. Walks u p t o (head_asks ++ (turn_asks ++ last_asks (length entered))) loop_end counted before after r) (sym (flat-append headed (turn ∷ turned (length entered)))) h

  -- Where a part refuses, the loop does.
  pub head_refused : (counted : ℕ) (k0 k1 : List Kept) (fault : CheckFault) (r : Result Walked CheckFault) → IsErrAnd r (λ f. f ≡ fault) → Stops u (flat headed) head_asks k0 k1 fault
      → LoopWalks counted k0 k1 r
  head_refused counted k0 k1 fault r is h =
      loop_whole counted k0 k1 r
      (handed_on u p t (flat headed ++ (turn ++ flat (turned (length entered)))) (head_asks ++ (turn_asks ++ last_asks (length entered))) loop_end counted k0 k1 fault r is
      (stops_behind u (flat headed) (turn ++ flat (turned (length entered))) head_asks (turn_asks ++ last_asks (length entered)) head_counted k0 k1 fault h))

  module _ (k0 k1 : List Kept) (held : Passes u (flat headed) head_asks k0 k1) where
    behind_head : (counted : ℕ) (k : List Kept) (r : Result Walked CheckFault)
        → Walks u p t (turn ++ flat (turned (length entered))) (turn_asks ++ last_asks (length entered)) loop_end counted k1 k r → LoopWalks counted k0 k r
    behind_head counted k r h =
        loop_whole counted k0 k r
        (walks_then u (flat headed) (turn ++ flat (turned (length entered))) head_asks (turn_asks ++ last_asks (length entered)) head_counted p t loop_end counted k0 k1 k r held h)

    pub turn_refused : (counted : ℕ) (k2 : List Kept) (fault : CheckFault) (r : Result Walked CheckFault) → IsErrAnd r (λ f. f ≡ fault) → Stops u turn turn_asks k1 k2 fault
        → LoopWalks counted k0 k2 r
    turn_refused counted k2 fault r is h =
        behind_head counted k2 r
        (handed_on u p t (turn ++ flat (turned (length entered))) (turn_asks ++ last_asks (length entered)) loop_end counted k1 k2 fault r is
        (stops_behind u turn (flat (turned (length entered))) turn_asks (last_asks (length entered)) (block_counted p t b (with_guard p t (meet p t a j) e)) k1 k2 fault h))

    pub loop_walks : (k2 k3 : List Kept) → Passes u turn turn_asks k1 k2 → (r : Result Walked CheckFault) (before counted : ℕ) → before ≡ length entered
        → counted ≡ entailment_count loop_obligations → Walks u p t (flat (turned before)) (last_asks before) loop_end counted k2 k3 r
        → LoopWalks (entailment_count loop_obligations) k0 k3 r
    loop_walks k2 k3 turn_held r before counted same is w =
        subst (λ n. LoopWalks n k0 k3 r) is
        (behind_head counted k3 r
        (walks_then u turn (flat (turned (length entered))) turn_asks (last_asks (length entered)) (block_counted p t b (with_guard p t (meet p t a j) e)) p t loop_end counted k1 k2 k3 r turn_held
        (subst (λ n. Walks u p t (flat (turned n)) (last_asks n) loop_end counted k2 k3 r) same w)))
