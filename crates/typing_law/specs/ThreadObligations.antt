-- The obligations of a thread: what has to hold of its statements, in the order in which it is tried (V1 to V16).
--
-- Each also stands where one before it fails, so that the list is a function of the program. (After the rules of COVERN,
-- in this project's own form.)
use Rattle.std.specs.Prelude.{ℕ, suc, ◌+◌, ◌==◌, ◌&&◌, nat_le, List, [], ◌∷◌, ◌++◌, length, map, count_by, Bool, true, false, not, is_none, find, if◌then◌else◌, Option, Some, None}
use Rattle.std.specs.List.{list_all}
use Rattle.cov_expr.specs.declared.limits.TheConstants.{MOST_PREDICATES}
use Rattle.cov_expr.specs.Term.{Term, neg}
use Rattle.cov_expr.specs.Trees.{has_number, vars, occurrences, width}
use Rattle.cov_ast.specs.Syntax.{State, Proof, Stm, skip, assign, lock, unlock, branch, loop, note, output, Block, done, more, Program}
use Rattle.cov_ast.specs.Plain.{Plain, plain}
use Rattle.cov_ast.specs.Declarations.{name_of, lock_at, is_control}
use Rattle.cov_ast.specs.Tables.{has}
use Rattle.cov_ast.specs.Obligations.{Obligation}
use Rattle.cov_ast.specs.declared.refusal.Rule.{Rule}
use Rattle.cov_ast.specs.declared.refusal.Rule.TheVariants.{V1, V2, V3, V4, V5, V6, V7, V8, V9, V10, V11, V12, V13, V14, V15, V16}
use Rattle.cov_ast.specs.declared.refusal.Detail.{Detail}
use Rattle.cov_ast.specs.declared.refusal.Detail.TheVariants.{Nothing, One, Number}
use Rattle.mode_state.specs.Sets.{locks_of, is_stable, may_read, may_write}
use Rattle.mode_compat.specs.Compatible.{numbered}
use Rattle.point_law.specs.Point.{Point, has_small_types, is_tracked, is_over_stable, is_over_controls}
use Rattle.point_law.specs.After.{start, after_assign, after_lock, after_unlock, with_guard, meet, noted}
use Rattle.typing_law.specs.Blocks.{value_type, after_stm, after_block}
use Rattle.typing_law.specs.Entailments.{Entailment, is_proved, is_small_entailment, state_follows, guard_follows, assign_entailments, unlock_entailments}

-- an obligation of a thread, at the place of a statement
abbrev pub thread_obligation : (t place : ℕ) → Rule → Detail → Bool → Obligation
thread_obligation t place rule detail holds =
    record { refusal = record { rule = rule; thread = Some t; place = place; detail = detail }; holds = holds }

-- the lists one after another
abbrev pub flat : List (List Obligation) → List Obligation
flat [] = []
flat (es ∷ ess) = es ++ flat ess

-- whether two truth values are the same
abbrev pub agree : Bool → Bool → Bool
agree true b = b
agree false b = not b

-- whether the same locks are held
abbrev pub same_held : Plain → (held other : List Bool) → Bool
same_held p held other = list_all (λ l. agree (has held l) (has other l)) (locks_of p)

-- no more predicates than there may be
abbrev pub has_few_preds : Point → Bool
has_few_preds a = nat_le (length a.preds) MOST_PREDICATES

-- whether the number of a proof is that of one of so many entailments, and no other proof has it
abbrev pub is_number : (count : ℕ) → List Proof → ℕ → Bool
is_number count proofs n = nat_le 1 n && nat_le n count && count_by (λ q. q.number == n) proofs == 1

-- Parts of rules -------------------------------------------------------------------------------------------------

-- for a thread of a program, at the place of a statement
module _ (p : Plain) (t at : ℕ) where
  abbrev pub obligation : Rule → Detail → Bool → Obligation
  obligation rule detail holds = thread_obligation t at rule detail holds

  abbrev pub of_var : Rule → (ℕ → Bool) → ℕ → Obligation
  of_var rule test x = obligation rule (One (name_of p x)) (test x)

  abbrev pub of_lock : Rule → (l : ℕ) → Bool → Obligation
  of_lock rule l holds = obligation rule (One (lock_at p l).name) holds

  -- V1: each variable of an expression may be read
  abbrev pub reads : List Bool → Term → List Obligation
  reads held e = map (of_var V1 (may_read p t held)) (vars e)

  -- V3: another thread may write at most one of what an evaluation reads
  abbrev pub one_unstable : List Bool → Term → List Obligation
  one_unstable held e = obligation V3 Nothing (nat_le (count_by (λ x. not (is_stable p t held x)) (occurrences e)) 1) ∷ []

  -- V10: so many registers are enough
  abbrev pub narrow : Term → List Obligation
  narrow e = obligation V10 Nothing (nat_le (width e) 7) ∷ []

  -- V1, V3 and V10 of a guard, and of an output
  abbrev pub guard_obligations : List Bool → Term → List Obligation
  guard_obligations held e = reads held e ++ one_unstable held e ++ narrow e

  -- V4: a type is over stable controls
  abbrev pub over_controls : List Bool → Term → Obligation
  over_controls held q = obligation V4 Nothing (is_over_controls p t held q)

  -- V12: a predicate is over stable variables
  abbrev pub over_stable : List Bool → Term → Obligation
  over_stable held e = obligation V12 Nothing (is_over_stable p t held e)

  -- V14 and V4: the variable passes a test and isn't named before, and its type is over stable controls
  abbrev pub type_obligations : (ℕ → Bool) → List Bool → (before : List ℕ) → List (ℕ × Term) → List Obligation
  type_obligations test held before [] = []
  type_obligations test held before (r ∷ rs) =
      of_var V14 (λ z. test z && not (has_number before z)) r.0 ∷ over_controls held r.1 ∷ type_obligations test held (r.0 ∷ before) rs

  -- V12, V14 and V4 of a state
  abbrev pub state_obligations : List Bool → State → List Obligation
  state_obligations held j = map (over_stable held) j.preds ++ type_obligations (is_tracked p t held) held [] j.types

  -- V8: the same locks are held
  abbrev pub same_locks : (held other : List Bool) → List Obligation
  same_locks held other = obligation V8 Nothing (same_held p held other) ∷ []

  -- V15: no point has too many predicates
  abbrev pub few_preds : List Point → List Obligation
  few_preds points = obligation V15 Nothing (list_all has_few_preds points) ∷ []

  -- V16: no hypothesis, no goal, and no type of a point has too many nodes
  abbrev pub small_terms : List Entailment → List Point → List Obligation
  small_terms entailments points = obligation V16 Nothing (list_all is_small_entailment entailments && list_all has_small_types points) ∷ []

  -- V9: each entailment, numbered from a number on, has a valid certificate
  abbrev pub proved : List Proof → (n : ℕ) → List Entailment → List Obligation
  proved proofs n [] = []
  proved proofs n (g ∷ gs) = obligation V9 (Number n) (is_proved proofs n g) ∷ proved proofs (suc n) gs

  -- V13: each number that is given is that of one of so many entailments, and is given once
  abbrev pub numbers : (count : ℕ) → List Proof → List Obligation
  numbers count proofs = map (λ q. obligation V13 (Number q.number) (is_number count proofs q.number)) proofs

-- Statements -----------------------------------------------------------------------------------------------------

module _ (p : Plain) (t : ℕ) where
  abbrev pub assign_parts : (at : ℕ) → Point → (x : ℕ) → Term → Option Term → (retypes : List (ℕ × Term)) → List Proof → List (List Obligation)
  assign_parts at a x e q retypes proofs =
      let after = after_assign p t a x e (value_type p t a q e) retypes in
      let gs = assign_entailments p t a x e q retypes in
      reads p t at a.held e
      ∷ (of_var p t at V2 (may_write p t a.held) x ∷ [])
      ∷ one_unstable p t at a.held e
      ∷ narrow p t at e
      ∷ (over_controls p t at a.held (value_type p t a q e) ∷ [])
      ∷ (if is_control p x then map (of_var p t at V5 (is_stable p t a.held)) (vars e) else [])
      ∷ type_obligations p t at (λ z. is_control p x && is_tracked p t a.held z) a.held [] retypes
      ∷ few_preds p t at (after ∷ [])
      ∷ small_terms p t at gs (after ∷ [])
      ∷ proved p t at proofs 1 gs
      ∷ numbers p t at (length gs) proofs
      ∷ []

  abbrev pub lock_parts : (at : ℕ) → Point → (l : ℕ) → List (List Obligation)
  lock_parts at a l =
      let after = after_lock p t a l in
      (of_lock p t at V6 l (not (has a.held l)) ∷ []) ∷ few_preds p t at (after ∷ []) ∷ small_terms p t at [] (after ∷ []) ∷ []

  abbrev pub unlock_parts : (at : ℕ) → Point → (l : ℕ) → List Proof → List (List Obligation)
  unlock_parts at a l proofs =
      let gs = unlock_entailments p t a l in
      (of_lock p t at V7 l (has a.held l) ∷ [])
      ∷ small_terms p t at gs (after_unlock p t a l ∷ [])
      ∷ proved p t at proofs 1 gs
      ∷ numbers p t at (length gs) proofs
      ∷ []

  abbrev pub note_parts : (at : ℕ) → Point → State → List Proof → List (List Obligation)
  note_parts at a j proofs =
      let gs = state_follows a j in
      state_obligations p t at a.held j
      ∷ small_terms p t at gs (noted a j ∷ [])
      ∷ proved p t at proofs 1 gs
      ∷ numbers p t at (length gs) proofs
      ∷ []

  abbrev pub output_parts : (at : ℕ) → Point → Term → List Proof → List (List Obligation)
  output_parts at a e proofs =
      let gs = guard_follows p t a e ∷ [] in
      guard_obligations p t at a.held e
      ∷ small_terms p t at gs (a ∷ [])
      ∷ proved p t at proofs 1 gs
      ∷ numbers p t at (length gs) proofs
      ∷ []

  abbrev mutual
    -- the parts of a rule, in order
    pub stm_parts : Stm → (at : ℕ) → List Proof → Point → List (List Obligation)
    stm_parts skip at proofs a = numbers p t at 0 proofs ∷ []
    stm_parts (assign x e q retypes) at proofs a = assign_parts at a x e q retypes proofs
    stm_parts (lock l) at proofs a = lock_parts at a l
    stm_parts (unlock l) at proofs a = unlock_parts at a l proofs
    stm_parts (branch e yes_block no_block join) at proofs a =
        let yes_start = with_guard p t a e in
        let no_start = with_guard p t a (neg e) in
        let yes_end = after_block p t yes_block yes_start in
        let no_end = after_block p t no_block no_start in
        let gs = guard_follows p t a e ∷ [] in
        let hs = state_follows yes_end join ++ state_follows no_end join in
        guard_obligations p t at a.held e
        ∷ few_preds p t at (yes_start ∷ no_start ∷ [])
        ∷ small_terms p t at gs []
        ∷ proved p t at proofs 1 gs
        ∷ block_obligations yes_block yes_start
        ∷ block_obligations no_block no_start
        ∷ same_locks p t at yes_end.held no_end.held
        ∷ state_obligations p t at yes_end.held join
        ∷ small_terms p t at hs (meet p t yes_end join ∷ [])
        ∷ proved p t at proofs (suc (length gs)) hs
        ∷ numbers p t at (length gs + length hs) proofs
        ∷ []
    stm_parts (loop e inv b) at proofs a =
        let head = meet p t a inv in
        let body_start = with_guard p t head e in
        let body_end = after_block p t b body_start in
        let after = with_guard p t head (neg e) in
        let gs = state_follows a inv ++ guard_follows p t head e ∷ [] in
        let hs = state_follows body_end inv in
        state_obligations p t at a.held inv
        ∷ guard_obligations p t at a.held e
        ∷ few_preds p t at (body_start ∷ after ∷ [])
        ∷ small_terms p t at gs []
        ∷ proved p t at proofs 1 gs
        ∷ block_obligations b body_start
        ∷ same_locks p t at body_end.held a.held
        ∷ small_terms p t at hs (after ∷ [])
        ∷ proved p t at proofs (suc (length gs)) hs
        ∷ numbers p t at (length gs + length hs) proofs
        ∷ []
    stm_parts (note j) at proofs a = note_parts at a j proofs
    stm_parts (output e) at proofs a = output_parts at a e proofs

    pub block_obligations : Block → Point → List Obligation
    block_obligations done a = []
    block_obligations (more at s proofs b) a = flat (stm_parts s at proofs a) ++ block_obligations b (after_stm p t s a)

-- Threads --------------------------------------------------------------------------------------------------------

-- the first lock, by declaration, that is held
abbrev pub first_held : Plain → List Bool → Option ℕ
first_held p held = find (has held) (locks_of p)

abbrev pub lock_detail : Plain → Option ℕ → Detail
lock_detail p None = Nothing
lock_detail p (Some l) = One (lock_at p l).name

-- V11: at the end of a thread no lock is held
abbrev pub end_obligation : Plain → (t place : ℕ) → List Bool → Obligation
end_obligation p t place held = thread_obligation t place V11 (lock_detail p (first_held p held)) (is_none (first_held p held))

-- the point at the end of a thread
abbrev pub end_point : Program → (t : ℕ) → Point
end_point p t = after_block (plain p) t (numbered p t).body (start (plain p) t)

-- The obligations of a thread: those of its statements, in their order, and then that of its end.
abbrev pub thread_obligations : Program → (t : ℕ) → List Obligation
thread_obligations p t =
    block_obligations (plain p) t (numbered p t).body (start (plain p) t) ++ end_obligation (plain p) t (numbered p t).end (end_point p t).held ∷ []
