-- The rules give what the code of a body rests on.
use Rattle.std.proofs.Common.{◌≡◌, ℕ, zero, suc, ◌+◌, ◌<◌, ◌≤◌, ◌==◌, ◌&&◌, not, nat_le, List, [], ◌∷◌, ◌++◌, length, Bool, true, false, cond, refl, sym, ◌∙◌, ap, subst, arith, IsTrue, inl, inr, count_by, zero-add, eqb-true, ◌⊎◌}
use Rattle.std.specs.List.{range_with_len, flat_map}
use Rattle.std.proofs.Math.ListN.{get_or-map}
use Rattle.std.proofs.lemmas.Bool.{and_parts, or_cases, leb-true}
use Rattle.std.proofs.lemmas.List.{ext_get_or, length-map, length-replicate}
use Rattle.std.proofs.lemmas.List.Elements.{All-get_or}
use Rattle.std.proofs.lemmas.List.Sums.{sum_by-append}
use Rattle.cov_expr.specs.Term.{Term, neg}
use Rattle.cov_expr.specs.Trees.{has_number, occurrences, width}
use Rattle.cov_expr.proofs.Tests.{each_below}
use Rattle.cov_expr.proofs.Trees.{occurs}
use Rattle.cov_ast.specs.Declarations.{thread_at}
use Rattle.cov_ast.specs.LocksAlong.{locks_at_end, no_locks}
use Rattle.cov_ast.specs.Obligations.{Obligation, all_hold}
use Rattle.cov_ast.specs.Plain.{Cmds, Plain, plain, plain_stm, plain_block, plain_thread}
use Rattle.cov_ast.specs.Syntax.{Proof, Stm, assign, branch, loop, note, output, Block, done, more, Program}
use Rattle.cov_ast.specs.Tables.{has}
use Rattle.cov_ast.specs.WellFormed.{IsStmInRange, IsBlockInRange, IsThreadInRange, IsWellFormed}
use Rattle.cov_ast.proofs.ObligationLaws.{both_hold}
use Rattle.mode_compat.specs.Compatible.{numbered, threads_of, no_thread}
use Rattle.mode_compat.specs.Declared.{declaration_obligations}
use Rattle.mode_state.specs.Sets.{is_stable, may_write}
use Rattle.typing_law.specs.Blocks.{after_stm, after_block}
use Rattle.typing_law.specs.ThreadObligations.{flat, agree, same_held, reads, one_unstable, narrow, assign_parts, stm_parts, block_obligations, end_obligation, end_point, thread_obligations}
use Rattle.typing_law.proofs.Soundness.Sound.{agreed, stm_sized, block_sized}
use Rattle.point_law.specs.After.{start, with_guard, meet}
use Rattle.point_law.specs.Point.{Point}
use Rattle.typing_law.specs.Accepted.{IsAccepted}
use Rattle.compiled_code.proofs.LaidOut.{IsTidyExpr, IsTidy}

-- At most one that passes a test ----------------------------------------------------------------------------------

module _ (f : ℕ → Bool) where
  counted : (x : ℕ) (xs : List ℕ) → count_by f (x ∷ xs) ≡ cond (f x) 1 0 + count_by f xs
  counted x xs = sum_by-append (λ y. cond (f y) 1 0) (x ∷ []) xs ∙ ap (λ k. k + count_by f xs) (zero-add (cond (f x) 1 0))

  counted_yes : (x : ℕ) (xs : List ℕ) → f x ≡ true → count_by f (x ∷ xs) ≡ 1 + count_by f xs
  counted_yes x xs i = counted x xs ∙ ap (λ b. cond b 1 0 + count_by f xs) i

  none_passes : (xs : List ℕ) → count_by f xs ≤ 0 → (x : ℕ) → has_number xs x ≡ true → f x ≡ true → ⊥
  none_passes [] h x i p = cc
  none_passes (z ∷ xs) h x i p = elim (or_cases (z == x) (has_number xs x) i) [
    | inl e ↦ omega (arith, h, counted_yes z xs (ap f (eqb-true z x e) ∙ p))
    | inr k ↦ none_passes xs (omega (arith, h, counted z xs)) x k p
  ]

  one_passes : (xs : List ℕ) → count_by f xs ≤ 1 → (x y : ℕ) → has_number xs x ≡ true → has_number xs y ≡ true → f x ≡ true → f y ≡ true → x ≡ y
  one_passes [] h x y i j p q = absurd cc
  one_passes (z ∷ xs) h x y i j p q = go (or_cases (z == x) (has_number xs x) i) (or_cases (z == y) (has_number xs y) j) (one_passes xs (omega (arith, h, counted z xs)) x y)
    where
      go : ((z == x) ≡ true) ⊎ (has_number xs x ≡ true) → ((z == y) ≡ true) ⊎ (has_number xs y ≡ true)
          → (has_number xs x ≡ true → has_number xs y ≡ true → f x ≡ true → f y ≡ true → x ≡ y) → x ≡ y
      go (inl a) (inl b) rest = sym (eqb-true z x a) ∙ eqb-true z y b
      go (inl a) (inr b) rest = absurd (none_passes xs (omega (arith, h, counted_yes z xs (ap f (eqb-true z x a) ∙ p))) y b q)
      go (inr a) (inl b) rest = absurd (none_passes xs (omega (arith, h, counted_yes z xs (ap f (eqb-true z y b) ∙ q))) x a p)
      go (inr a) (inr b) rest = rest a b p q

-- Obligations -----------------------------------------------------------------------------------------------------

module _ (p : Plain) (t : ℕ) where
  abbrev AllTrue : List (List Obligation) → Type 0
  AllTrue [] = Unit {0}
  AllTrue (es ∷ ess) = IsTrue (all_hold es) × AllTrue ess

  each_part : (ess : List (List Obligation)) → IsTrue (all_hold (flat ess)) → AllTrue ess
  each_part [] h = tt
  each_part (es ∷ ess) h = let both = both_hold es (flat ess) h in (both.0, each_part ess both.1)

  -- the first of what holds
  first_holds : (b rest : Bool) → IsTrue (b && rest) → IsTrue b
  first_holds b rest h = (and_parts b rest h).0

  -- where the same locks are held, the lists are the same
  one_list : (H K : List Bool) → length H ≡ length p.locks → length K ≡ length p.locks → IsTrue (same_held p H K) → H ≡ K
  one_list H K h k same =
      ext_get_or false H K (h ∙ sym k)
      (λ l lt. agreed (has H l) (has K l) (each_below (λ l. agree (has H l) (has K l)) 0 (length p.locks) l (omega arith) (omega (arith, lt, h)) same))

  tidy_expr : (H : List Bool) (e : Term) → nat_le (width e) 7 ≡ true → nat_le (count_by (λ x. not (is_stable p t H x)) (occurrences e)) 1 ≡ true → IsTidyExpr p t H e
  tidy_expr H e w u = record {
    narrow = leb-true (width e) 7 w;
    one_unstable = λ x y i j a b.
        one_passes (λ x. not (is_stable p t H x)) (occurrences e) (leb-true _ 1 u) x y (occurs e x ∙ i) (occurs e y ∙ j) (ap not a) (ap not b);
  }

  tidy_guard : (at : ℕ) (H : List Bool) (e : Term) → IsTrue (all_hold (reads p t at H e ++ one_unstable p t at H e ++ narrow p t at e)) → IsTidyExpr p t H e
  tidy_guard at H e h =
      let first = both_hold (reads p t at H e ++ one_unstable p t at H e) (narrow p t at e) h in
      let second = both_hold (reads p t at H e) (one_unstable p t at H e) first.0 in
      tidy_expr H e (and_parts (nat_le (width e) 7) true first.1).0 (and_parts _ true second.1).0

  -- Statements ----------------------------------------------------------------------------------------------------

  -- The points have the locks that the plain statements have.
  mutual
    stm_locks : (s : Stm) (at : ℕ) (rest : Cmds) (a : Point) → locks_at_end (plain_stm s at rest) a.held ≡ locks_at_end rest (after_stm p t s a).held
    stm_locks (branch e yes_block no_block join) at rest a = ap (locks_at_end rest) (held_behind yes_block (with_guard p t a e))
    stm_locks _ at rest a = refl

    held_behind : (b : Block) (a : Point) → locks_at_end (plain_block b) a.held ≡ (after_block p t b a).held
    held_behind done a = refl
    held_behind (more at s proofs b) a = stm_locks s at (plain_block b) a ∙ held_behind b (after_stm p t s a)

  mutual
    tidy_stm : (s : Stm) (at : ℕ) (proofs : List Proof) (rest : Cmds) (a : Point) → length a.held ≡ length p.locks → IsStmInRange (length p.vars) (length p.locks) s
        → IsTrue (all_hold (flat (stm_parts p t s at proofs a))) → IsTidy p t rest (after_stm p t s a).held → IsTidy p t (plain_stm s at rest) a.held
    tidy_stm (assign x v q retypes) at proofs rest a n r h k =
        let hs = each_part (assign_parts p t at a x v q retypes proofs) h in (
          record {
            locks = assumption;
            assigned = ((and_parts (may_write p t a.held x) true hs.1.0).0, r.0);
            evaluated = tidy_expr a.held v (and_parts _ true hs.1.1.1.0).0 (and_parts _ true hs.1.1.0).0;
            blocks = tt;
          },
          k,
        )
    tidy_stm (branch g yes_block no_block join) at proofs rest a n r h k =
        let yes = with_guard p t a g in
        let no = with_guard p t a (neg g) in
        let yes_held = (after_block p t yes_block yes).held in
        let no_held = (after_block p t no_block no).held in
        let hs = each_part (stm_parts p t (branch g yes_block no_block join) at proofs a) h in
        let same = one_list yes_held no_held (block_sized p t yes_block yes ∙ n) (block_sized p t no_block no ∙ n) (and_parts _ true hs.1.1.1.1.1.1.0).0 in (
          record {
            locks = assumption;
            assigned = tt;
            evaluated = tidy_guard at a.held g hs.0;
            blocks = (
              tidy_block yes_block yes n r.1 hs.1.1.1.1.0,
              tidy_block no_block no n r.2 hs.1.1.1.1.1.0,
              held_behind yes_block yes ∙ same ∙ sym (held_behind no_block no),
            );
          },
          subst (IsTidy p t rest) (sym (held_behind yes_block yes)) k,
        )
    tidy_stm (loop g inv b) at proofs rest a n r h k =
        let from = with_guard p t (meet p t a inv) g in
        let hs = each_part (stm_parts p t (loop g inv b) at proofs a) h in
        let same = one_list (after_block p t b from).held a.held (block_sized p t b from ∙ n) n (and_parts _ true hs.1.1.1.1.1.1.0).0 in (
          record {
            locks = assumption;
            assigned = tt;
            evaluated = tidy_guard at a.held g hs.1.0;
            blocks = (tidy_block b from n r.2 hs.1.1.1.1.1.0, held_behind b from ∙ same);
          },
          k,
        )
    tidy_stm (note j) at proofs rest a n r h k = k
    tidy_stm (output g) at proofs rest a n r h k =
        let hs = each_part (stm_parts p t (output g) at proofs a) h in
        (record { locks = assumption; assigned = tt; evaluated = tidy_guard at a.held g hs.0; blocks = tt }, k)
    tidy_stm _ at proofs rest a n r h k =
        (record { locks = record { taken = assumption; returned = first_of (assumption, search first_holds) }; assigned = tt; evaluated = tt; blocks = tt }, k)

    tidy_block : (b : Block) (a : Point) → length a.held ≡ length p.locks → IsBlockInRange (length p.vars) (length p.locks) b
        → IsTrue (all_hold (block_obligations p t b a)) → IsTidy p t (plain_block b) a.held
    tidy_block done a n r h = tt
    tidy_block (more at s proofs b) a n r h =
        let both = both_hold (flat (stm_parts p t s at proofs a)) (block_obligations p t b (after_stm p t s a)) h in
        tidy_stm s at proofs (plain_block b) a n r.0 both.0 (tidy_block b (after_stm p t s a) (stm_sized p t s a ∙ n) r.2 both.1)

-- Threads ---------------------------------------------------------------------------------------------------------

module _ (g : ℕ → List Obligation) where
  -- of one of the numbers from another on
  number_true : (from n i : ℕ) → i < n → IsTrue (all_hold (flat_map g (range_with_len from n))) → IsTrue (all_hold (g (from + i)))
  number_true from zero i inside h = let no : ⊥ = omega arith in absurd no
  number_true from (suc n) zero inside h =
      let same : from ≡ from + 0 = omega arith in
      subst (λ x. IsTrue (all_hold (g x))) same (both_hold (g from) (flat_map g (range_with_len (from + 1) n)) h).0
  number_true from (suc n) (suc i) inside h =
      let same : from + 1 + i ≡ from + suc i = omega arith in
      subst (λ x. IsTrue (all_hold (g x))) same
      (number_true (from + 1) n i (omega arith) (both_hold (g from) (flat_map g (range_with_len (from + 1) n)) h).1)

module _ (p : Program) (accepted : IsAccepted p) where
  pub declarations_true : IsTrue (all_hold (declaration_obligations p))
  declarations_true = (both_hold (declaration_obligations p) (flat_map (thread_obligations p) (threads_of p)) accepted).0

  thread_true : (t : ℕ) → t < length p.threads → IsTrue (all_hold (thread_obligations p t))
  thread_true t inside =
      let same : 0 + t ≡ t = omega arith in
      subst (λ x. IsTrue (all_hold (thread_obligations p x))) same
      (number_true (thread_obligations p) 0 (length p.threads) t inside (both_hold (declaration_obligations p) (flat_map (thread_obligations p) (threads_of p)) accepted).1)

  -- the bodies of an accepted program
  pub bodies_tidy : IsWellFormed p → (t : ℕ) → t < length (plain p).threads → IsTidy (plain p) t (thread_at (plain p) t).body (no_locks (plain p))
  bodies_tidy formed t t_in =
      let inside : t < length p.threads = omega (arith, t_in, length-map p.threads plain_thread) in
      let body = (numbered p t).body in
      let is : (thread_at (plain p) t).body ≡ plain_block body = ap (λ th. th.body) (get_or-map plain_thread p.threads t no_thread) in
      subst (λ c. IsTidy (plain p) t c (no_locks (plain p))) (sym is)
      (tidy_block (plain p) t body (start (plain p) t) (length-replicate (length p.locks) false)
      (All-get_or (IsThreadInRange (length p.vars) (length p.locks)) p.threads t no_thread inside formed.ids.of_threads).body
      (both_hold (block_obligations (plain p) t body (start (plain p) t)) (end_obligation (plain p) t (numbered p t).end (end_point p t).held ∷ []) (thread_true t inside)).0)
