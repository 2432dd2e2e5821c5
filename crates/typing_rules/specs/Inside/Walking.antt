-- What a walk over the statements of a thread rests on, and what its parts answer.
use Rattle.std.specs.Prelude.{◌≡◌, ℕ, suc, ◌+◌, ◌<◌, ◌≤◌, ◌&&◌, List, [], ◌∷◌, ◌++◌, length, map, true, if◌then◌else◌, Result, Ok, Err, IsTrue}
use Rattle.std.specs.List.{list_all}
use Rattle.cov_expr.specs.Term.{Term, neg}
use Rattle.cov_expr.specs.Trees.{vars}
use Rattle.cov_expr.specs.Words.{HasVarsBelow}
use Rattle.cov_ast.specs.Declarations.{is_control}
use Rattle.cov_ast.specs.Obligations.{all_hold, Obligation}
use Rattle.cov_ast.specs.Plain.{Plain, plain}
use Rattle.cov_ast.specs.Syntax.{State, Proof, Stm, Block}
use Rattle.cov_ast.specs.View as view
use Rattle.cov_ast.specs.WellFormed.{IsWellFormed}
use Rattle.cov_ast.specs.declared.refusal.CheckFault.{CheckFault}
use Rattle.cov_ast.specs.declared.refusal.Rule.TheVariants.{V2, V5}
use Rattle.mode_compat.specs.Declared.{declaration_obligations}
use Rattle.mode_state.specs.Sets.{is_stable, may_write}
use Rattle.point_law.specs.After.{meet, with_guard}
use Rattle.typing_state.specs.KeptPoints.{AtPoint, Keeps}
use Rattle.point_law.specs.Point as spec
use Rattle.point_law.specs.Point.{is_tracked}
use Rattle.typing_state.specs.declared.point.Point.{Point}
use Rattle.typing_law.specs.Counts.{entailment_count}
use Rattle.typing_law.specs.Blocks.{after_block, after_stm}
use Rattle.typing_law.specs.Entailments.{Entailment, is_proved, is_small_entailment, guard_follows, state_follows}
use Rattle.typing_law.specs.ThreadObligations.{block_obligations, few_preds, flat, guard_obligations, narrow, numbers, of_var, one_unstable, over_controls, proved, reads, same_locks, small_terms, state_obligations, stm_parts, type_obligations}
use Rattle.typing_law.specs.ThreadEntailments.{PlacedEntailment, block_entailments, placed_from, stm_entailments}
use Rattle.typing_rules.specs.Keeping.{Asked, Item, kept_for, view_kept}
use Rattle.typing_rules.specs.Unproved.{unproved_for}
use Rattle.typing_rules.specs.Inside.Passing.{Passes, Stops}
use Rattle.typing_rules.specs.declared.entailments_tried.Tried.{Tried}
use Rattle.typing_rules.specs.declared.kept.Kept.{Kept}
use Rattle.typing_rules.specs.declared.purpose.Purpose.{Purpose}
use Rattle.typing_rules.specs.declared.walk.Guarded.{Guarded}
use Rattle.typing_rules.specs.declared.walk.Walk.{Walk}
use Rattle.typing_rules.specs.declared.walk.Walked.{Walked}

-- All obligations hold that the walk looks at, and this is the point after them, with how many entailments were counted; or this
-- is the first of them that doesn't hold, unless memory ran out.
abbrev pub Walks : Purpose → Plain → (t : ℕ) → List Obligation → List PlacedEntailment → (end : spec.Point) → (counted : ℕ) → (before after : List Kept)
    → Result Walked CheckFault → Type 0
Walks u p t obligations entailments end counted before after (Ok walked) =
    Passes u obligations entailments before after × Keeps p t end walked.point × (walked.entailments ≡ counted)
Walks u p t obligations entailments end counted before after (Err fault) = Stops u obligations entailments before after fault

-- The program is well formed, its declarations keep the rules, and it has the thread.
pub record IsWalk (w : Walk) : Type 0 where
  pub formed : IsWellFormed (view.program w.program.now)
  pub declared : IsTrue (all_hold (declaration_obligations (view.program w.program.now)))
  pub thread : w.thread < length w.program.now.threads

-- the program of a walk, without its annotations
abbrev pub plain_of : Walk → Plain
plain_of w = plain (view.program w.program.now)

-- each type of a point is over variables below a bound
abbrev pub HasTypesBelow : spec.Point → ℕ → Type 0
HasTypesBelow a n = (z : ℕ) → HasVarsBelow (spec.type_at a z) n

-- This is kept of some point of the thread, whose types are over variables of the program.
pub record Stands (w : Walk) (kept : Point) : Type 0 where
  pub at : spec.Point
  pub keeps : Keeps (plain_of w) w.thread at kept
  pub types : HasTypesBelow at (length w.program.now.vars)

-- whatever point of the thread this is kept of
abbrev pub Wherever : Walk → Point → (spec.Point → Type 0) → Type 0
Wherever w kept P = AtPoint (plain_of w) w.thread kept P

-- Statements and blocks ------------------------------------------------------------------------------------------

-- the answer about a statement
abbrev pub WalksStm : Walk → (at : ℕ) → Stm → List Proof → Point → (before after : List Kept) → Result Walked CheckFault → Type 0
WalksStm w at s proofs kept before after result =
    Wherever w kept (λ a. let obligations = flat (stm_parts (plain_of w) w.thread s at proofs a) in
    Walks w.purpose (plain_of w) w.thread obligations (stm_entailments (plain_of w) w.thread s at a) (after_stm (plain_of w) w.thread s a)
    (entailment_count obligations) before after result)

-- the answer about a block
abbrev pub WalksBlock : Walk → Block → Point → (before after : List Kept) → Result Walked CheckFault → Type 0
WalksBlock w b kept before after result =
    Wherever w kept (λ a. let obligations = block_obligations (plain_of w) w.thread b a in
    Walks w.purpose (plain_of w) w.thread obligations (block_entailments (plain_of w) w.thread b a) (after_block (plain_of w) w.thread b a)
    (entailment_count obligations) before after result)

-- Entailments ----------------------------------------------------------------------------------------------------

-- entailments of the statement at a place that are numbered from a number on, each with whether it is proved
abbrev pub asked_from : (at : ℕ) → List Proof → (n : ℕ) → List Entailment → List Asked
asked_from at proofs n [] = []
asked_from at proofs n (g ∷ gs) =
    record { listed = record { place = at; number = n; entailment = g }; proved = is_proved proofs n g } ∷ asked_from at proofs (suc n) gs

-- What came of entailments of the statement at a place that are numbered from a number on: whether they are small, and, if so, how
-- many there are, which has no valid certificate, and that what the walk keeps is all that was added to others.
pub record Tries (u : Purpose) (at : ℕ) (proofs : List Proof) (n : ℕ) (gs : List Entailment) (before after : List Kept) (tried : Tried) : Type 0 where
  pub few : tried.count ≤ length gs
  pub small : tried.small ≡ list_all is_small_entailment gs
  pub added : List Item
  pub grown : map view_kept after ≡ map view_kept before ++ added
  pub decided : tried.small ≡ true
      → (tried.count ≡ length gs) × (tried.unproved ≡ unproved_for u proofs n gs) × (added ≡ kept_for u (asked_from at proofs n gs))

-- Parts of branches and loops ------------------------------------------------------------------------------------

module _ (p : Plain) (t at : ℕ) where
  -- of an assignment of a value of a type, what is asked of the type and of those that are retyped
  abbrev pub type_parts : spec.Point → (x : ℕ) → (e q : Term) → (retypes : List (ℕ × Term)) → List (List Obligation)
  type_parts a x e q retypes =
      (over_controls p t at a.held q ∷ [])
      ∷ (if is_control p x then map (of_var p t at V5 (is_stable p t a.held)) (vars e) else [])
      ∷ type_obligations p t at (λ z. is_control p x && is_tracked p t a.held z) a.held [] retypes
      ∷ []

  -- of an assignment of a value of a type, what is asked before it
  abbrev pub value_parts : spec.Point → (x : ℕ) → (e q : Term) → (retypes : List (ℕ × Term)) → List (List Obligation)
  value_parts a x e q retypes =
      reads p t at a.held e
      ∷ (of_var p t at V2 (may_write p t a.held) x ∷ [])
      ∷ one_unstable p t at a.held e
      ∷ narrow p t at e
      ∷ type_parts a x e q retypes

  -- V16, V9 and V13 of entailments that are numbered from a number on, and of the points after them, where a statement has
  -- so many
  abbrev pub last_parts : List Proof → (n count : ℕ) → List Entailment → List spec.Point → List (List Obligation)
  last_parts proofs n count gs points = small_terms p t at gs points ∷ proved p t at proofs n gs ∷ numbers p t at count proofs ∷ []

  -- V15, V16 and V9 before a block is entered
  abbrev pub first_parts : List Proof → List Entailment → List spec.Point → List (List Obligation)
  first_parts proofs gs points = few_preds p t at points ∷ small_terms p t at gs [] ∷ proved p t at proofs 1 gs ∷ []

  -- of a branch, before its blocks
  abbrev pub fork_parts : List Proof → spec.Point → Term → (points : List spec.Point) → List (List Obligation)
  fork_parts proofs a e points = guard_obligations p t at a.held e ∷ first_parts proofs (guard_follows p t a e ∷ []) points

  -- of a branch, after its blocks
  abbrev pub join_parts : List Proof → (before : ℕ) → State → (first second : spec.Point) → List (List Obligation)
  join_parts proofs before join first second =
      same_locks p t at first.held second.held ∷ state_obligations p t at first.held join
      ∷ (let hs = state_follows first join ++ state_follows second join in
      last_parts proofs (suc before) (before + length hs) hs (meet p t first join ∷ []))

  -- of a loop, before its block
  abbrev pub head_parts : List Proof → spec.Point → State → Term → (points : List spec.Point) → List (List Obligation)
  head_parts proofs a inv e points =
      state_obligations p t at a.held inv ∷ guard_obligations p t at a.held e
      ∷ first_parts proofs (state_follows a inv ++ guard_follows p t (meet p t a inv) e ∷ []) points

  -- of a loop, after its block
  abbrev pub turn_parts : List Proof → (before : ℕ) → State → (end after : spec.Point) → List (List Obligation)
  turn_parts proofs before inv end after =
      same_locks p t at end.held after.held
      ∷ last_parts proofs (suc before) (before + length (state_follows end inv)) (state_follows end inv) (after ∷ [])

-- All obligations hold that the walk looks at, and these are the points where a guard holds and where it doesn't, with how many
-- entailments were counted; or this is the first of them that doesn't hold, unless memory ran out.
abbrev pub Guards : Purpose → Plain → (t : ℕ) → List Obligation → List PlacedEntailment → (holds fails : spec.Point) → (counted : ℕ) → (before after : List Kept)
    → Result Guarded CheckFault → Type 0
Guards u p t obligations entailments holds fails counted before after (Ok guarded) =
    Passes u obligations entailments before after × Keeps p t holds guarded.holds × Keeps p t fails guarded.fails × (guarded.count ≡ counted)
Guards u p t obligations entailments holds fails counted before after (Err fault) = Stops u obligations entailments before after fault

-- the points where a guard holds and where it doesn't
abbrev pub starts_of : Walk → spec.Point → Term → List spec.Point
starts_of w a e = with_guard (plain_of w) w.thread a e ∷ with_guard (plain_of w) w.thread a (neg e) ∷ []

-- the answer about what stands before a guard that is tried at a point of a statement with these entailments so far
abbrev pub GuardsAt : Walk → (at : ℕ) → List Obligation → List Entailment → spec.Point → Term → (before after : List Kept) → Result Guarded CheckFault → Type 0
GuardsAt w at obligations gs a e before after result =
    Guards w.purpose (plain_of w) w.thread obligations (placed_from at 1 gs) (with_guard (plain_of w) w.thread a e)
    (with_guard (plain_of w) w.thread a (neg e)) (length gs) before after result
