-- The entailments of a thread have few hypotheses and small numbers, as its body is small.
use Rattle.std.proofs.Common.{rules, ℕ, zero, suc, ◌+◌, ◌*◌, ◌≤◌, ◌&&◌, ◌||◌, not, List, [], ◌∷◌, ◌++◌, length, map, take, Bool, true, false, if◌then◌else◌, Option, Some, None, arith, length-append}
use Rattle.std.specs.Prelude.{filter, option_to_list, sum_by}
use Rattle.std.proofs.lemmas.List.{length-map}
use Rattle.std.proofs.lemmas.List.FromFn.{length-range_with_len}
use Rattle.std.proofs.lemmas.List.Sums.{count_by-le-length, length-filter, sum_by-cons}
use Rattle.cov_expr.specs.Term.{Term, var, neg, bin}
use Rattle.cov_expr.specs.Trees.{has_term, mentions, nodes}
use Rattle.cov_expr.specs.declared.expr.Op.TheVariants.{Eq}
use Rattle.cov_ast.specs.Declarations.{class_of, is_control, lock_at}
use Rattle.cov_ast.specs.Plain.{Plain}
use Rattle.cov_ast.specs.Syntax.{State, Stm, skip, assign, lock, branch, loop, note, output, Block, done, more}
use Rattle.cov_ast.specs.WellFormed.{block_size, state_size, stm_size, types_size}
use Rattle.mode_state.specs.Sets.{is_hidden}
use Rattle.point_law.specs.After.{keeps_value, meet, with_guard, with_term_if}
use Rattle.point_law.specs.Point.{is_over_stable, Point, vars_of}
use Rattle.point_law.specs.Terms.{with_option, with_term, with_terms}
use Rattle.typing_law.specs.Blocks.{after_block, after_stm, value_type}
use Rattle.typing_law.specs.Entailments.{assign_entailments, controlled_follows, controlled_values, Entailment, from_preds, guard_follows, retype_follows, shown_controlled, shown_value, state_follows, type_follows, written_type}
use Rattle.typing_law.specs.ThreadEntailments.{block_entailments, PlacedEntailment, placed_from, stm_entailments}

-- Lists --------------------------------------------------------------------------------------------------------

with_one : (es : List Term) (e : Term) → length (with_term es e) ≤ length es + 1
with_one es e = go (has_term es e)
  where
    go : (b : Bool) → length (if b then es else es ++ e ∷ []) ≤ length es + 1
    go true = omega arith
    go false = omega (arith, length-append es (e ∷ []))

with_one_if : (b : Bool) (es : List Term) (e : Term) → length (with_term_if b es e) ≤ length es + 1
with_one_if true es e = with_one es e
with_one_if false es e = omega arith

with_more : (es fs : List Term) → length (with_terms es fs) ≤ length es + length fs
with_more es [] = omega arith
with_more es (f ∷ fs) = omega (arith, with_more (with_term es f) fs, with_one es f)

with_any : (es : List Term) (o : Option Term) → length (with_option es o) ≤ length es + 1
with_any es None = omega arith
with_any es (Some e) = with_one es e

few_by : {X : Type 0} (f : X → ℕ) (xs : List X) → length xs ≤ sum_by (λ x. f x + 1) xs
few_by f [] = omega arith
few_by f (x ∷ xs) = omega (arith, few_by f xs, sum_by-cons (λ x. f x + 1) x xs)

preds_by : (es : List Term) → length es ≤ sum_by (λ e. nodes e + 1) es
preds_by es = few_by nodes es

types_by : (ts : List (ℕ × Term)) → length ts ≤ sum_by (λ t. nodes t.1 + 1) ts
types_by ts = few_by (λ t. nodes t.1) ts

state_few : (j : State) → length j.preds + length j.types ≤ state_size j
state_few j = omega (arith, few_by nodes j.preds, few_by (λ t. nodes t.1) j.types)

-- Points -------------------------------------------------------------------------------------------------------

abbrev held_few : Point → ℕ
held_few a = length a.preds

module _ (P : Plain) (u : ℕ) where
  guard_few : (a : Point) (e : Term) → held_few (with_guard P u a e) ≤ held_few a + 1
  guard_few a e = with_one_if (is_over_stable P u a.held e) a.preds e

  meet_few : (a : Point) (j : State) → held_few (meet P u a j) ≤ state_size j
  meet_few a j = omega (arith, with_more [] j.preds, state_few j)

  after_few : (c : Stm) (a : Point) → held_few (after_stm P u c a) ≤ held_few a + 1 + stm_size c
  after_few (assign x e q retypes) a =
      omega (arith, with_one_if (keeps_value P u a.held x e) (filter (λ r. not (mentions r x)) a.preds) (bin Eq (var x) e), length-filter (λ r. not (mentions r x)) a.preds, count_by-le-length (λ r. not (mentions r x)) a.preds)
  after_few (lock l) a = omega (arith, with_any a.preds (lock_at P l).inv)
  after_few (branch e yes_block no_block join) a = omega (arith, meet_few (after_block P u yes_block (with_guard P u a e)) join)
  after_few (loop e inv b) a = omega (arith, guard_few (meet P u a inv) (neg e), meet_few a inv)
  after_few (note j) a = omega (arith, with_more [] j.preds, state_few j)
  after_few _ a = grind (arith, length-filter, count_by-le-length)

  block_few : (b : Block) (a : Point) → held_few (after_block P u b a) ≤ held_few a + block_size b
  block_few done a = omega arith
  block_few (more at c proofs b) a = omega (arith, block_few b (after_stm P u c a), after_few c a)

-- Entailments --------------------------------------------------------------------------------------------------

-- each has at most so many hypotheses
abbrev HaveFew : (most : ℕ) → List Entailment → Type 0
HaveFew m [] = Unit {0}
HaveFew m (g ∷ gs) = (length g.hyps ≤ m) × HaveFew m gs

few_append : (m : ℕ) (gs hs : List Entailment) → HaveFew m gs → HaveFew m hs → HaveFew m (gs ++ hs)
few_append m [] hs h k = k
few_append m (g ∷ gs) hs h k = (h.0, few_append m gs hs h.1 k)

few_map : {X : Type 0} (m : ℕ) (f : X → Entailment) (xs : List X) → ((x : X) → length (f x).hyps ≤ m) → HaveFew m (map f xs)
few_map m f [] h = tt
few_map m f (x ∷ xs) h = (h x, few_map m f xs h)

few_pick : (m : ℕ) (b : Bool) (gs : List Entailment) → HaveFew m gs → HaveFew m (if b then gs else [])
few_pick m true gs h = h
few_pick m false gs h = tt

pick_length : {X : Type 0} (b : Bool) (xs : List X) → length (if b then xs else []) ≤ length xs
pick_length true xs = omega arith
pick_length false xs = omega arith

-- An entailment has a number of at most so much, and at most so many hypotheses.
pub record IsSmall (number most : ℕ) (g : PlacedEntailment) : Type 0 where
  pub low : g.number ≤ number
  pub few : length g.entailment.hyps ≤ most

abbrev pub AreSmall : (number most : ℕ) → List PlacedEntailment → Type 0
AreSmall n m [] = Unit {0}
AreSmall n m (g ∷ gs) = IsSmall n m g × AreSmall n m gs

small_append : (n m : ℕ) (gs hs : List PlacedEntailment) → AreSmall n m gs → AreSmall n m hs → AreSmall n m (gs ++ hs)
small_append n m [] hs h k = k
small_append n m (g ∷ gs) hs h k = (h.0, small_append n m gs hs h.1 k)

pub small_take : (n m k : ℕ) (gs : List PlacedEntailment) → AreSmall n m gs → AreSmall n m (take k gs)
small_take n m zero gs h = tt
small_take n m (suc k) [] h = tt
small_take n m (suc k) (g ∷ gs) h = (h.0, small_take n m k gs h.1)

placed_small : (n m at k : ℕ) (gs : List Entailment) → HaveFew m gs → k + length gs ≤ suc n → AreSmall n m (placed_from at k gs)
placed_small n m at k [] h lt = tt
placed_small n m at k (g ∷ gs) h lt = (record { low = omega (arith, lt); few = h.0 }, placed_small n m at (suc k) gs h.1 (omega (arith, lt)))

module _ (P : Plain) (u hidden : ℕ) (few_hidden : (l : ℕ) → length (lock_at P l).hide ≤ hidden) where
  one_more : (a : Point) (e : Term) → length (a.preds ++ e ∷ []) ≤ held_few a + 1
  one_more a e = omega (arith, length-append a.preds (e ∷ []))

  preds_few : (m : ℕ) (a : Point) → held_few a + 1 ≤ m → length a.preds ≤ m
  preds_few m a h = omega (arith, h)

  hyps_few : (m : ℕ) (a : Point) (e : Term) → held_few a + 1 ≤ m → length (a.preds ++ e ∷ []) ≤ m
  hyps_few m a e h = omega (arith, h, one_more a e)

  state_follows_few : (m : ℕ) (a : Point) (j : State) → held_few a + 1 ≤ m → HaveFew m (state_follows a j)
  state_follows_few m a j h =
      few_append m (map (from_preds a.preds) j.preds) (map (type_follows a) j.types) (few_map m (from_preds a.preds) j.preds (λ x. omega (arith, h)))
      (few_map m (type_follows a) j.types (λ r. omega (arith, h, one_more a r.1)))

  state_follows_length : (a : Point) (j : State) → length (state_follows a j) ≤ state_size j
  state_follows_length a j =
      omega (arith, length-append (map (from_preds a.preds) j.preds) (map (type_follows a) j.types), length-map j.preds (from_preds a.preds), length-map j.types (type_follows a), state_few j)

  written_few : (m : ℕ) (a : Point) (e : Term) (q : Option Term) → held_few a + 1 ≤ m → HaveFew m (written_type P u a e q)
  written_few m a e None h = tt
  written_few m a e (Some q) h = (omega (arith, h, one_more a q), tt)

  written_length : (a : Point) (e : Term) (q : Option Term) → length (written_type P u a e q) ≤ 1
  written_length a e None = omega arith
  written_length a e (Some q) = omega arith

  assign_few : (m : ℕ) (a : Point) (x : ℕ) (e : Term) (q : Option Term) (rs : List (ℕ × Term)) → held_few a + 1 ≤ m → HaveFew m (assign_entailments P u a x e q rs)
  assign_few m a x e q rs h =
      let v = value_type P u a q e in
      let shown = shown_value P u a x v in
      let controlled = controlled_values P u a x e in
      let retyped = map (retype_follows P u a x e) rs in
      few_append m (written_type P u a e q ++ shown ++ controlled) retyped
      (few_append m (written_type P u a e q ++ shown) controlled
      (few_append m (written_type P u a e q) shown (written_few m a e q h)
      (few_pick m (is_control P x || not (is_hidden P u a.held x)) (record { hyps = a.preds ++ class_of P x ∷ []; goal = v } ∷ []) (omega (arith, h, one_more a (class_of P x)), tt)))
      (few_pick m (is_control P x) (map (controlled_follows P u a x e) (shown_controlled P u a x))
      (few_map m (controlled_follows P u a x e) (shown_controlled P u a x) (λ y. omega (arith, h, one_more a (Rattle.cov_expr.specs.Trees.subst (class_of P y) x e))))))
      (few_map m (retype_follows P u a x e) rs (λ r. omega (arith, h, one_more a (Rattle.cov_expr.specs.Trees.subst r.1 x e))))

  controlled_length : (a : Point) (x : ℕ) (e : Term) → length (controlled_values P u a x e) ≤ length P.vars
  controlled_length a x e =
      omega (
        arith,
        pick_length (is_control P x) (map (controlled_follows P u a x e) (shown_controlled P u a x)),
        length-map (shown_controlled P u a x) (controlled_follows P u a x e),
        length-filter (λ y. mentions (class_of P y) x && not (is_hidden P u a.held y)) (vars_of P),
        count_by-le-length (λ y. mentions (class_of P y) x && not (is_hidden P u a.held y)) (vars_of P),
        length-range_with_len 0 (length P.vars),
      )

  assign_length : (a : Point) (x : ℕ) (e : Term) (q : Option Term) (rs : List (ℕ × Term)) → length (assign_entailments P u a x e q rs) ≤ 2 + length P.vars + types_size rs
  assign_length a x e q rs =
      let v = value_type P u a q e in
      let written = written_type P u a e q in
      let shown = shown_value P u a x v in
      let controlled = controlled_values P u a x e in
      let retyped = map (retype_follows P u a x e) rs in
      omega (
        arith,
        length-append (written ++ shown ++ controlled) retyped,
        length-append (written ++ shown) controlled,
        length-append written shown,
        written_length a e q,
        pick_length {X = Entailment} (is_control P x || not (is_hidden P u a.held x)) (record { hyps = a.preds ++ class_of P x ∷ []; goal = v } ∷ []),
        controlled_length a x e,
        length-map rs (retype_follows P u a x e),
        few_by (λ r. nodes r.1) rs,
      )

  list_length : (o : Option Term) → length (option_to_list o) ≤ 1
  list_length None = omega arith
  list_length (Some e) = omega arith

  module _ (n m : ℕ) (room : 2 * m + length P.vars + hidden + 3 ≤ n) where
    mutual
      stm_small : (c : Stm) (at : ℕ) (a : Point) → held_few a + 1 + stm_size c ≤ m → AreSmall n (suc m) (stm_entailments P u c at a)
      stm_small skip at a h = tt
      stm_small (assign x e q rs) at a h =
          placed_small n (suc m) at 1 (assign_entailments P u a x e q rs) (assign_few (suc m) a x e q rs (omega (arith, h))) (omega (arith, h, room, assign_length a x e q rs))
      stm_small (lock l) at a h = tt
      stm_small (branch e yes_block no_block join) at a h =
          let yes_start = with_guard P u a e in
          let no_start = with_guard P u a (neg e) in
          let yes_end = after_block P u yes_block yes_start in
          let no_end = after_block P u no_block no_start in
          let gs = guard_follows P u a e ∷ [] in
          let hs = state_follows yes_end join ++ state_follows no_end join in
          let yes = block_entailments P u yes_block yes_start in
          let no = block_entailments P u no_block no_start in
          let last = placed_from at (suc (length gs)) hs in
          let yes_few = guard_few P u a e in
          let no_few = guard_few P u a (neg e) in
          small_append n (suc m) (placed_from at 1 gs) (yes ++ (no ++ last)) (placed_small n (suc m) at 1 gs (omega (arith, h), tt) (omega (arith, room)))
          (small_append n (suc m) yes (no ++ last) (block_small yes_block yes_start (omega (arith, h, yes_few)))
          (small_append n (suc m) no last (block_small no_block no_start (omega (arith, h, no_few)))
          (placed_small n (suc m) at (suc (length gs)) hs
          (few_append (suc m) (state_follows yes_end join) (state_follows no_end join) (state_follows_few (suc m) yes_end join (omega (arith, h, yes_few, block_few P u yes_block yes_start)))
          (state_follows_few (suc m) no_end join (omega (arith, h, no_few, block_few P u no_block no_start))))
          (omega (arith, h, room, length-append (state_follows yes_end join) (state_follows no_end join), state_follows_length yes_end join, state_follows_length no_end join)))))
      stm_small (loop e inv b) at a h =
          let head = meet P u a inv in
          let body_start = with_guard P u head e in
          let body_end = after_block P u b body_start in
          let gs = state_follows a inv ++ guard_follows P u head e ∷ [] in
          let hs = state_follows body_end inv in
          let inner = block_entailments P u b body_start in
          let last = placed_from at (suc (length gs)) hs in
          let head_few = meet_few P u a inv in
          let start_few = guard_few P u head e in
          let first_length = length-append (state_follows a inv) (guard_follows P u head e ∷ []) in
          small_append n (suc m) (placed_from at 1 gs) (inner ++ last)
          (placed_small n (suc m) at 1 gs
          (few_append (suc m) (state_follows a inv) (guard_follows P u head e ∷ []) (state_follows_few (suc m) a inv (omega (arith, h))) (omega (arith, h, head_few), tt))
          (omega (arith, h, room, first_length, state_follows_length a inv)))
          (small_append n (suc m) inner last (block_small b body_start (omega (arith, h, head_few, start_few)))
          (placed_small n (suc m) at (suc (length gs)) hs (state_follows_few (suc m) body_end inv (omega (arith, h, head_few, start_few, block_few P u b body_start)))
          (omega (arith, h, room, first_length, state_follows_length a inv, state_follows_length body_end inv))))
      stm_small (output e) at a h = placed_small n (suc m) at 1 (guard_follows P u a e ∷ []) (omega (arith, h), tt) (omega (arith, room))
      stm_small _ at a h =
          let most : held_few a + 1 ≤ suc m = omega (arith, h) in
          placed_small n (suc m) at 1 _ (search (rules, few_append, few_map, preds_few, hyps_few, most))
          (grind (arith, h, room, length-append, length-map, length-filter, count_by-le-length, list_length, few_hidden, preds_by, types_by))

      block_small : (b : Block) (a : Point) → held_few a + block_size b ≤ m → AreSmall n (suc m) (block_entailments P u b a)
      block_small done a h = tt
      block_small (more at c proofs b) a h =
          small_append n (suc m) (stm_entailments P u c at a) (block_entailments P u b (after_stm P u c a)) (stm_small c at a (omega (arith, h)))
          (block_small b (after_stm P u c a) (omega (arith, h, after_few P u c a)))

    pub body_small : (b : Block) (a : Point) → held_few a + block_size b ≤ m → AreSmall n (suc m) (block_entailments P u b a)
    body_small = block_small
