-- The obligations of a thread speak of the declared variables and locks, of its modes and of its statements, and of no other
-- thread: they are the same in two programs that have these alike. What speaks of modes alone is the same as of a program that has
-- these modes and no other thread; the lists of obligations, which name the thread by its number, follow the lines of their definitions.
use Rattle.std.proofs.Common.{◌≡◌, ℕ, zero, suc, ◌+◌, nat_le, List, [], ◌∷◌, ◌++◌, length, map, get_or, Bool, not, ◌&&◌, refl, Option, ◌∙◌, ap, sym}
use Rattle.std.specs.Prelude.{count_by, if◌then◌else◌}
use Rattle.cov_expr.specs.Term.{Term, neg}
use Rattle.cov_expr.specs.Trees.{has_number, occurrences, vars}
use Rattle.cov_ast.specs.Declarations.{modes_of, is_control}
use Rattle.cov_ast.specs.Declarations as none
use Rattle.cov_ast.specs.Plain.{Plain, PlainThread, plain, plain_thread}
use Rattle.cov_ast.specs.Syntax.{Var, Lock, Modes, State, Proof, Stm, assign, branch, loop, Block, done, more, Thread, Program}
use Rattle.cov_ast.specs.WellFormed.{places}
use Rattle.cov_ast.specs.declared.refusal.Rule.TheVariants.{V1, V2, V3, V4, V5, V9, V12, V14}
use Rattle.cov_ast.specs.declared.refusal.Detail.TheVariants.{Nothing, Number}
use Rattle.mode_state.specs.Sets.{is_stable, may_read, may_write}
use Rattle.mode_compat.specs.Compatible.{no_thread}
use Rattle.point_law.specs.Point.{Point, is_tracked, is_over_stable, is_over_controls, ty}
use Rattle.point_law.specs.After.{updated, start, after_assign, unlocked_type, with_guard, meet}
use Rattle.typing_law.specs.Blocks.{value_type, after_stm, after_block}
use Rattle.typing_law.specs.Entailments.{Entailment, is_proved, state_follows, guard_follows, assign_entailments}
use Rattle.typing_law.specs.ThreadObligations.{flat, obligation, of_var, reads, one_unstable, narrow, guard_obligations, over_controls, over_stable, type_obligations, state_obligations, same_locks, few_preds, small_terms, proved, numbers, stm_parts, block_obligations, end_obligation, thread_obligations}
use Rattle.typing_law.specs.Counts.{counts, entailment_count}

module _ (V : List Var) (L : List Lock) (T U : List PlainThread) (t : ℕ) where
  abbrev p : Plain
  p = record { vars = V; locks = L; threads = T }

  abbrev q : Plain
  q = record { vars = V; locks = L; threads = U }

  -- a program with one thread, which has these modes: what is said of a thread by its modes is said of that thread
  abbrev alone : Modes → Plain
  alone m = record { vars = V; locks = L; threads = record none.no_thread { modes = m } ∷ [] }

  module _ (e : modes_of p t ≡ modes_of q t) where
    one : alone (modes_of p t) ≡ alone (modes_of q t)
    one = ap alone e

    -- Points
    start_same : start p t ≡ start q t
    start_same = λ i. start (one i) 0

    mutual
      after_stm_same : (s : Stm) (a : Point) → after_stm p t s a ≡ after_stm q t s a
      after_stm_same (branch r yes_block no_block j) a = λ i. meet (one i) 0 (after_block_same yes_block (with_guard (one i) 0 a r) i) j
      after_stm_same s a = λ i. after_stm (one i) 0 s a

      after_block_same : (b : Block) (a : Point) → after_block p t b a ≡ after_block q t b a
      after_block_same done a = refl
      after_block_same (more at s proofs b) a = λ i. after_block_same b (after_stm_same s a i) i

    -- Parts of rules
    module _ (at : ℕ) where
      reads_same : (held : List Bool) (r : Term) → reads p t at held r ≡ reads q t at held r
      reads_same held r = λ i. map (of_var p t at V1 (may_read (one i) 0 held)) (vars r)

      one_unstable_same : (held : List Bool) (r : Term) → one_unstable p t at held r ≡ one_unstable q t at held r
      one_unstable_same held r = λ i. obligation p t at V3 Nothing (nat_le (count_by (λ x. not (is_stable (one i) 0 held x)) (occurrences r)) 1) ∷ []

      guard_obligations_same : (held : List Bool) (r : Term) → guard_obligations p t at held r ≡ guard_obligations q t at held r
      guard_obligations_same held r = λ i. reads_same held r i ++ one_unstable_same held r i ++ narrow p t at r

      over_controls_same : (held : List Bool) (r : Term) → over_controls p t at held r ≡ over_controls q t at held r
      over_controls_same held r = λ i. obligation p t at V4 Nothing (is_over_controls (one i) 0 held r)

      over_stable_same : (held : List Bool) (r : Term) → over_stable p t at held r ≡ over_stable q t at held r
      over_stable_same held r = λ i. obligation p t at V12 Nothing (is_over_stable (one i) 0 held r)

      type_obligations_same : (test : ℕ → Bool) (held : List Bool) (before : List ℕ) (types : List (ℕ × Term))
          → type_obligations p t at test held before types ≡ type_obligations q t at test held before types
      type_obligations_same test held before [] = refl
      type_obligations_same test held before (r ∷ rs) =
          λ i. of_var p t at V14 (λ z. test z && not (has_number before z)) r.0 ∷ over_controls_same held r.1 i
          ∷ type_obligations_same test held (r.0 ∷ before) rs i

      state_obligations_same : (held : List Bool) (j : State) → state_obligations p t at held j ≡ state_obligations q t at held j
      state_obligations_same held j =
          λ i. map (λ r. over_stable_same held r i) j.preds ++ type_obligations_same (is_tracked (one i) 0 held) held [] j.types i

      proved_same : (proofs : List Proof) (n : ℕ) (gs : List Entailment) → proved p t at proofs n gs ≡ proved q t at proofs n gs
      proved_same proofs n [] = refl
      proved_same proofs n (g ∷ gs) = λ i. obligation p t at V9 (Number n) (is_proved proofs n g) ∷ proved_same proofs (suc n) gs i

    -- Statements
    left_types_same : (held : List Bool) (types : List (Option Term)) → updated (unlocked_type p t held) types ≡ updated (unlocked_type q t held) types
    left_types_same held types = λ i. updated (unlocked_type (one i) 0 held) types

    ty_same : (a : Point) (r : Term) → ty p t a r ≡ ty q t a r
    ty_same a r = λ i. ty (one i) 0 a r

    mutual
      stm_parts_same : (s : Stm) (at : ℕ) (proofs : List Proof) (a : Point) → stm_parts p t s at proofs a ≡ stm_parts q t s at proofs a
      stm_parts_same (assign x r o retypes) at proofs a =
          λ i.
          let written = value_type (one i) 0 a o r in
          let after = after_assign (one i) 0 a x r written retypes in
          let gs = assign_entailments (one i) 0 a x r o retypes in
          reads_same at a.held r i
          ∷ (of_var p t at V2 (may_write (one i) 0 a.held) x ∷ [])
          ∷ one_unstable_same at a.held r i
          ∷ narrow p t at r
          ∷ (over_controls_same at a.held written i ∷ [])
          ∷ (if is_control p x then map (of_var p t at V5 (is_stable (one i) 0 a.held)) (vars r) else [])
          ∷ type_obligations_same at (λ z. is_control p x && is_tracked (one i) 0 a.held z) a.held [] retypes i
          ∷ few_preds p t at (after ∷ [])
          ∷ small_terms p t at gs (after ∷ [])
          ∷ proved_same at proofs 1 gs i
          ∷ numbers p t at (length gs) proofs
          ∷ []
      stm_parts_same (branch r yes_block no_block j) at proofs a =
          let yes_start = ap (λ w. with_guard w 0 a r) one in
          let no_start = ap (λ w. with_guard w 0 a (neg r)) one in
          let yes_end : after_block p t yes_block (with_guard p t a r) ≡ after_block q t yes_block (with_guard q t a r)
          = λ i. after_block_same yes_block (yes_start i) i in
          let no_end : after_block p t no_block (with_guard p t a (neg r)) ≡ after_block q t no_block (with_guard q t a (neg r))
          = λ i. after_block_same no_block (no_start i) i in
          λ i.
          let gs = guard_follows (one i) 0 a r ∷ [] in
          let hs = state_follows (yes_end i) j ++ state_follows (no_end i) j in
          guard_obligations_same at a.held r i
          ∷ few_preds p t at (yes_start i ∷ no_start i ∷ [])
          ∷ small_terms p t at gs []
          ∷ proved_same at proofs 1 gs i
          ∷ block_obligations_same yes_block (yes_start i) i
          ∷ block_obligations_same no_block (no_start i) i
          ∷ same_locks p t at (yes_end i).held (no_end i).held
          ∷ state_obligations_same at (yes_end i).held j i
          ∷ small_terms p t at hs (meet (one i) 0 (yes_end i) j ∷ [])
          ∷ proved_same at proofs (suc (length gs)) hs i
          ∷ numbers p t at (length gs + length hs) proofs
          ∷ []
      stm_parts_same (loop r j b) at proofs a =
          let body_start = ap (λ w. with_guard w 0 (meet w 0 a j) r) one in
          let body_end : after_block p t b (with_guard p t (meet p t a j) r) ≡ after_block q t b (with_guard q t (meet q t a j) r)
          = λ i. after_block_same b (body_start i) i in
          let after = ap (λ w. with_guard w 0 (meet w 0 a j) (neg r)) one in
          λ i.
          let gs = state_follows a j ++ guard_follows (one i) 0 (meet (one i) 0 a j) r ∷ [] in
          let hs = state_follows (body_end i) j in
          state_obligations_same at a.held j i
          ∷ guard_obligations_same at a.held r i
          ∷ few_preds p t at (body_start i ∷ after i ∷ [])
          ∷ small_terms p t at gs []
          ∷ proved_same at proofs 1 gs i
          ∷ block_obligations_same b (body_start i) i
          ∷ same_locks p t at (body_end i).held a.held
          ∷ small_terms p t at hs (after i ∷ [])
          ∷ proved_same at proofs (suc (length gs)) hs i
          ∷ numbers p t at (length gs + length hs) proofs
          ∷ []
      stm_parts_same s at proofs a = first_of (cc, simp (guard_obligations_same, state_obligations_same, ty_same, left_types_same, proved_same))

      pub block_obligations_same : (b : Block) (a : Point) → block_obligations p t b a ≡ block_obligations q t b a
      block_obligations_same done a = refl
      block_obligations_same (more at s proofs b) a = λ i. flat (stm_parts_same s at proofs a i) ++ block_obligations_same b (after_stm_same s a i) i

-- Programs -----------------------------------------------------------------------------------------------------------

plain_at : (ts : List Thread) (t : ℕ) → get_or (map plain_thread ts) t none.no_thread ≡ plain_thread (get_or ts t no_thread)
plain_at [] t = refl
plain_at (x ∷ xs) zero = refl
plain_at (x ∷ xs) (suc t) = plain_at xs t

abbrev pub with_threads : ℕ → List Var → List Lock → List Thread → Program
with_threads version V L T = record { version = version; vars = V; locks = L; threads = T }

-- two programs with the same variables and locks and one thread in the same place
module _ (v w : ℕ) (V : List Var) (L : List Lock) (T U : List Thread) (t : ℕ) (n : get_or T t no_thread ≡ get_or U t no_thread) where
  modes_same : (get_or (map plain_thread T) t none.no_thread).modes ≡ (get_or (map plain_thread U) t none.no_thread).modes
  modes_same = ap (λ d. d.modes) (plain_at T t ∙ ap plain_thread n ∙ sym (plain_at U t))

  pub thread_obligations_same : thread_obligations (with_threads v V L T) t ≡ thread_obligations (with_threads w V L U) t
  thread_obligations_same =
      let P = plain (with_threads v V L T) in
      λ i. block_obligations_same V L (map plain_thread T) (map plain_thread U) t modes_same (n i).body
      (start_same V L (map plain_thread T) (map plain_thread U) t modes_same i) i
      ++ end_obligation P t (n i).end
      (after_block_same V L (map plain_thread T) (map plain_thread U) t modes_same (n i).body
      (start_same V L (map plain_thread T) (map plain_thread U) t modes_same i) i).held
      ∷ []

  pub counts_same : counts (with_threads v V L T) t ≡ counts (with_threads w V L U) t
  counts_same = λ i. record { statements = length (places (n i).body); entailments = entailment_count (thread_obligations_same i) }
