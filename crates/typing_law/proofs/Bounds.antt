-- How many entailments a statement and a block have at most, by their size.
use Rattle.std.proofs.Common.{◌≡◌, ℕ, zero, suc, ◌+◌, ◌*◌, ◌<◌, ◌≤◌, ◌==◌, eqb, not, List, [], ◌∷◌, ◌++◌, length, map, filter, get_or, Bool, true, false, sum_by, option_to_list, refl, subst, ap, arith, Option, Some, None, IsTrue, All, eq-eqb, eqb-true, ⊎_elim, ◌&&◌, ◌||◌}
use Rattle.std.specs.List.{AllByRecursion, IsDistinct, list_any, flat_map}
use Rattle.std.proofs.lemmas.Bool.{not-true, or_cases, or_left, false_from_ne_true}
use Rattle.std.proofs.lemmas.List.{length-append, length-map}
use Rattle.std.proofs.lemmas.List.Elements.{recursion_from_All}
use Rattle.std.proofs.lemmas.List.FromFn.{length-range_with_len}
use Rattle.std.proofs.lemmas.List.Sums.{length-filter, count_by-le-length, sum_by-append}
use Rattle.std.proofs.lemmas.Map.Steps.{length-le_from_distinct_below}
use Rattle.cov_expr.specs.Term.{Term, neg}
use Rattle.cov_expr.specs.Trees.{has_number, nodes, mentions}
use Rattle.cov_ast.specs.Declarations.{class_of, is_control, lock_at, no_lock}
use Rattle.cov_ast.specs.Obligations.{all_hold}
use Rattle.cov_ast.specs.Plain.{plain}
use Rattle.cov_ast.specs.Syntax.{Lock, Program, State, Stm, assign, branch, loop, Block, done, more}
use Rattle.cov_ast.specs.WellFormed.{IsWellFormed, IsStmInRange, IsBlockInRange, places, places_within, types_size, state_size, stm_size, block_size}
use Rattle.lock_spec.specs.Locks.{listing_obligations, w4_from, invariant_obligations, lock_obligations}
use Rattle.policy_class.specs.Policy.{policy_obligations}
use Rattle.mode_compat.specs.Compatible.{mode_obligations}
use Rattle.mode_compat.specs.Declared.{declaration_obligations}
use Rattle.mode_state.specs.Sets.{is_hidden}
use Rattle.point_law.specs.Point.{Point, vars_of}
use Rattle.point_law.specs.After.{with_guard, meet}
use Rattle.typing_law.specs.Counts.{entailment_count}
use Rattle.typing_law.specs.Blocks.{value_type, after_stm, after_block}
use Rattle.typing_law.specs.Entailments.{Entailment, from_preds, from_one_more, type_follows, state_follows, guard_follows, written_type, shown_value, shown_controlled, controlled_follows, controlled_values, retype_follows, assign_entailments}
use Rattle.typing_law.specs.ThreadEntailments.{block_entailments, placed_from, stm_entailments}
use Rattle.typing_law.specs.ThreadObligations.{block_obligations}
use Rattle.typing_law.proofs.Counting.{block_counted, placed_length}
use Rattle.typing_law.proofs.Soundness.FromObligations.{AllTrue, all_true, true_left, true_right}
use Rattle.typing_law.proofs.Soundness.Lists.{has_left, has_right}
use Rattle.typing_law.proofs.Soundness.Static.{clash, cond_is}

-- Lists --------------------------------------------------------------------------------------------------------

-- each item counts at least one
length-le-sum_by : {X : Type 0} (f : X → ℕ) (xs : List X) → ((x : X) → 1 ≤ f x) → length xs ≤ sum_by f xs
length-le-sum_by f [] h = omega arith
length-le-sum_by f (x ∷ xs) h = omega (arith, sum_by-append f (x ∷ []) xs, h x, length-le-sum_by f xs h)

length-filter-le : {X : Type 0} (test : X → Bool) (xs : List X) → length (filter test xs) ≤ length xs
length-filter-le test xs = omega (arith, length-filter test xs, count_by-le-length test xs)

distinct_right : (xs ys : List ℕ) → IsDistinct eqb (xs ++ ys) → IsDistinct eqb ys
unfolding IsDistinct
distinct_right [] ys h = h
distinct_right (x ∷ xs) ys h = distinct_right xs ys h.1

one_at_most : (o : Option Term) → length (option_to_list o) ≤ 1
one_at_most None = omega arith
one_at_most (Some e) = omega arith

found_below : (n : ℕ) (xs : List ℕ) (q : ℕ) → AllByRecursion (λ x. x < n) xs → list_any (eqb q) xs ≡ true → q < n
found_below n [] q h k = absurd (let c : false ≡ true = k in cc)
found_below n (x ∷ xs) q h k =
    ⊎_elim (λ e. let same : q ≡ x = eqb-true q x e in omega (arith, same, h.0)) (λ e. found_below n xs q h.1 e) (or_cases (eqb q x) (list_any (eqb q) xs) k)

-- Statements ---------------------------------------------------------------------------------------------------

mutual
  pub few_places_within : (s : Stm) → length (places_within s) ≤ stm_size s
  few_places_within (branch e a b join) = omega (arith, length-append (places a) (places b), few_places a, few_places b)
  few_places_within (loop e inv b) = omega (arith, few_places b)
  few_places_within _ = omega arith

  pub few_places : (b : Block) → length (places b) ≤ block_size b
  few_places done = omega arith
  few_places (more at s proofs b) = omega (arith, length-append (places_within s) (places b), few_places_within s, few_places b)

-- The entailments of a state ----------------------------------------------------------------------------------------

length-le-types_size : (ts : List (ℕ × Term)) → length ts ≤ types_size ts
length-le-types_size ts = length-le-sum_by (λ t. nodes t.1 + 1) ts (λ t. omega arith)

pub few_entailments_state : (a : Point) (j : State) → length (state_follows a j) ≤ state_size j
few_entailments_state a j =
    omega (
      arith,
      length-append (map (from_preds a.preds) j.preds) (map (type_follows a) j.types),
      length-map j.preds (from_preds a.preds),
      length-map j.types (type_follows a),
      length-le-sum_by (λ e. nodes e + 1) j.preds (λ e. omega arith),
      length-le-types_size j.types,
    )

-- A lock hides each variable once -----------------------------------------------------------------------------

module _ (p : Program) where
  -- what was named before isn't named again
  apart : (l : Lock) (before xs : List ℕ) (x : ℕ) → AllTrue (listing_obligations p l before xs) → has_number before x ≡ true → AllByRecursion (λ y. eqb x y ≡ false) xs
  apart l before [] x h b = tt
  apart l before (y ∷ ys) x h b = (
    false_from_ne_true (eqb x y) (λ e. clash (has_number before y) (subst (λ z. has_number before z ≡ true) (eqb-true x y e) b) (not-true (has_number before y) h.0)),
    apart l (before ++ y ∷ []) ys x h.1 (has_left before (y ∷ []) x b),
  )

  listed_once : (l : Lock) (before xs : List ℕ) → AllTrue (listing_obligations p l before xs) → IsDistinct eqb xs
  unfolding IsDistinct
  listed_once l before [] h = tt
  listed_once l before (x ∷ xs) h = (
    apart l (before ++ x ∷ []) xs x h.1 (has_right before (x ∷ []) x (or_left (x == x) false (eq-eqb x x refl))),
    listed_once l (before ++ x ∷ []) xs h.1,
  )

  hidden_once : (before : List ℕ) (ls : List Lock) (l : ℕ) → l < length ls → AllTrue (w4_from p before ls) → IsDistinct eqb (get_or ls l no_lock).hide
  hidden_once before [] l lt h = absurd (omega arith)
  hidden_once before (k ∷ ls) zero lt h =
      let names = k.nowrite ++ k.hide in
      distinct_right k.nowrite k.hide (listed_once k before names (true_left (listing_obligations p k before names) (w4_from p (before ++ names) ls) h))
  hidden_once before (k ∷ ls) (suc l) lt h =
      let names = k.nowrite ++ k.hide in
      hidden_once (before ++ names) ls l (omega arith) (true_right (listing_obligations p k before names) (w4_from p (before ++ names) ls) h)

  few_hidden : IsWellFormed p → IsTrue (all_hold (declaration_obligations p)) → (l : ℕ) → l < length p.locks → length (lock_at (plain p) l).hide ≤ 256
  few_hidden fine h l lt =
      let hidden = (lock_at (plain p) l).hide in
      let of_locks = true_left (w4_from p [] p.locks) (flat_map (invariant_obligations p) p.locks)
      (true_right (policy_obligations p) (lock_obligations p) (true_left (policy_obligations p ++ lock_obligations p) (mode_obligations p) (all_true (declaration_obligations p) h))) in
      let in_range : All (λ x. x < length p.vars) hidden = (fine.ids.of_locks l no_lock lt).hide in
      omega (
        arith,
        length-le_from_distinct_below hidden (length p.vars) (hidden_once [] p.locks l lt of_locks)
            (λ q k. found_below (length p.vars) hidden q (recursion_from_All _ hidden in_range) k),
        fine.limits.variables,
      )

-- Entailments of statements -----------------------------------------------------------------------------------------

module _ (p : Program) (t : ℕ) where
  one_written : (a : Point) (e : Term) (q : Option Term) → length (written_type (plain p) t a e q) ≤ 1
  one_written a e None = omega arith
  one_written a e (Some q) = omega arith

  one_shown : (a : Point) (x : ℕ) (q : Term) → length (shown_value (plain p) t a x q) ≤ 1
  one_shown a x q =
      cond_is (λ (gs : List Entailment). length gs ≤ 1) (is_control (plain p) x || not (is_hidden (plain p) t a.held x))
      (from_one_more a.preds (class_of (plain p) x) q ∷ []) [] (λ _. omega arith) (λ _. omega arith)

  few_controlled : (a : Point) (x : ℕ) (e : Term) → length (controlled_values (plain p) t a x e) ≤ length p.vars
  few_controlled a x e =
      let test = λ (y : ℕ). mentions (class_of (plain p) y) x && not (is_hidden (plain p) t a.held y) in
      let each = map (controlled_follows (plain p) t a x e) (shown_controlled (plain p) t a x) in
      let few : length each ≤ length p.vars = omega (
        arith,
        length-map (shown_controlled (plain p) t a x) (controlled_follows (plain p) t a x e),
        length-filter-le test (vars_of (plain p)),
        length-range_with_len 0 (length p.vars),
      ) in
      cond_is (λ (gs : List Entailment). length gs ≤ length p.vars) (is_control (plain p) x) each [] (λ _. few) (λ _. omega arith)

  -- of a program with true declarations
  module _ (fine : IsWellFormed p) (h : IsTrue (all_hold (declaration_obligations p))) where
    pub few_entailments_assign : (a : Point) (x : ℕ) (e : Term) (q : Option Term) (retypes : List (ℕ × Term))
        → length (assign_entailments (plain p) t a x e q retypes) ≤ 1024 * (1 + stm_size (assign x e q retypes))
    few_entailments_assign a x e q retypes =
        let written = written_type (plain p) t a e q in
        let shown = shown_value (plain p) t a x (value_type (plain p) t a q e) in
        let controlled = controlled_values (plain p) t a x e in
        let retyped = map (retype_follows (plain p) t a x e) retypes in
        omega (
          arith,
          length-append (written ++ shown ++ controlled) retyped,
          length-append (written ++ shown) controlled,
          length-append written shown,
          one_written a e q,
          one_shown a x (value_type (plain p) t a q e),
          few_controlled a x e,
          length-map retypes (retype_follows (plain p) t a x e),
          length-le-types_size retypes,
          fine.limits.variables,
        )

    mutual
      few_of : (s : Stm) (at : ℕ) (a : Point) → IsStmInRange (length p.vars) (length p.locks) s
          → length (stm_entailments (plain p) t s at a) ≤ 1024 * (1 + stm_size s)
      few_of (assign x e q retypes) at a r =
          omega (arith, placed_length at 1 (assign_entailments (plain p) t a x e q retypes), few_entailments_assign a x e q retypes)
      few_of (branch e yes_block no_block join) at a r =
          let yes_start = with_guard (plain p) t a e in
          let no_start = with_guard (plain p) t a (neg e) in
          let yes_end = after_block (plain p) t yes_block yes_start in
          let no_end = after_block (plain p) t no_block no_start in
          let inside = block_entailments (plain p) t yes_block yes_start in
          let behind = block_entailments (plain p) t no_block no_start in
          let hs = state_follows yes_end join ++ state_follows no_end join in
          omega (
            arith,
            length-append inside (behind ++ placed_from at 2 hs),
            length-append behind (placed_from at 2 hs),
            few_in yes_block yes_start r.1,
            few_in no_block no_start r.2,
            placed_length at 2 hs,
            length-append (state_follows yes_end join) (state_follows no_end join),
            few_entailments_state yes_end join,
            few_entailments_state no_end join,
          )
      few_of (loop e inv b) at a r =
          let head = meet (plain p) t a inv in
          let start = with_guard (plain p) t head e in
          let end = after_block (plain p) t b start in
          let gs = state_follows a inv ++ guard_follows (plain p) t head e ∷ [] in
          let inside = block_entailments (plain p) t b start in
          let last = placed_from at (suc (length gs)) (state_follows end inv) in
          omega (
            arith,
            length-append (placed_from at 1 gs) (inside ++ last),
            length-append inside last,
            placed_length at 1 gs,
            placed_length at (suc (length gs)) (state_follows end inv),
            length-append (state_follows a inv) (guard_follows (plain p) t head e ∷ []),
            few_entailments_state a inv,
            few_in b start r.2,
            few_entailments_state end inv,
          )
      few_of _ at a r =
          omega (
            arith,
            placed_length,
            length-append {A = Entailment},
            length-map {A = Term} {B = Entailment},
            length-map {A = ℕ} {B = Entailment},
            length-filter-le {X = ℕ},
            one_at_most,
            few_entailments_state,
            few_hidden p fine h,
          )

      few_in : (b : Block) (a : Point) → IsBlockInRange (length p.vars) (length p.locks) b
          → length (block_entailments (plain p) t b a) ≤ 1024 * block_size b
      few_in done a r = omega arith
      few_in (more at s proofs b) a r =
          let behind = after_stm (plain p) t s a in
          omega (
            arith,
            length-append (stm_entailments (plain p) t s at a) (block_entailments (plain p) t b behind),
            few_of s at a r.0,
            few_in b behind r.2,
          )

    -- those of a statement that has these alone
    pub few_own : (s : Stm) (at : ℕ) (a : Point) (gs : List Entailment) → stm_entailments (plain p) t s at a ≡ placed_from at 1 gs
        → IsStmInRange (length p.vars) (length p.locks) s → length gs ≤ 1024 * (1 + stm_size s)
    few_own s at a gs are r = omega (arith, few_of s at a r, ap length are, placed_length at 1 gs)

    pub few_entailments : (b : Block) (a : Point) → IsBlockInRange (length p.vars) (length p.locks) b
        → entailment_count (block_obligations (plain p) t b a) ≤ 1024 * block_size b
    few_entailments b a r = omega (arith, block_counted (plain p) t b a, few_in b a r)
