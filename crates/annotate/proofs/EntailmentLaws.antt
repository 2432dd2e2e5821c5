-- What has to follow at the statements of a thread doesn't depend on its proofs.
use Rattle.std.proofs.Common.{◌≡◌, ℕ, suc, ◌+◌, ◌&&◌, List, [], ◌∷◌, ◌++◌, length, map, take, Bool, true, false, cond, refl, sym, ap, ◌∙◌, arith}
use Rattle.std.specs.List.{list_all}
use Rattle.std.proofs.lemmas.Bool.{and_parts, or_right}
use Rattle.std.proofs.lemmas.List.{append-nil}
use Rattle.cov_expr.specs.Term.{neg}
use Rattle.cov_ast.specs.Obligations.{Obligation}
use Rattle.cov_ast.specs.Plain.{Plain, plain}
use Rattle.cov_ast.specs.Syntax.{Cert, Proof, Stm, skip, assign, lock, branch, loop, output, Block, done, more, Thread, Program}
use Rattle.mode_compat.specs.Compatible.{numbered}
use Rattle.point_law.specs.Point.{Point}
use Rattle.point_law.specs.After.{start, with_guard, meet}
use Rattle.typing_law.specs.Blocks.{after_stm, after_block}
use Rattle.typing_law.specs.Counts.{entailment_count}
use Rattle.typing_law.specs.Entailments.{Entailment, guard_follows, is_proved, state_follows}
use Rattle.typing_law.specs.ThreadEntailments.{PlacedEntailment, block_entailments, is_passed, placed_from, reached, reached_entailments, stm_entailments, thread_entailments}
use Rattle.typing_law.specs.ThreadObligations.{block_obligations, end_obligation, flat, is_number, numbers, proved, stm_parts}
use Rattle.typing_law.proofs.Counting.{count_append, count_cons, count_numbers, count_proved}
use Rattle.annotate.specs.WithCertificates.{program_without_proofs, put_in_program, thread_without_proofs, without_proofs, without_proofs_stm}
use Rattle.annotate.proofs.PlacedLaws.{numbered_same, plain_same, program_kept}

-- Obligations alike --------------------------------------------------------------------------------------------

-- As many ask that something follows, and as many of these are reached; and whether all are passed is the same.
record Alike (es fs : List Obligation) : Type 0 where
  passed : list_all is_passed es ≡ list_all is_passed fs
  count : entailment_count es ≡ entailment_count fs
  reach : entailment_count (reached es) ≡ entailment_count (reached fs)

alike_itself : (es : List Obligation) → Alike es es
alike_itself es = record { passed = refl; count = refl; reach = refl }

all_append : (a b : List Obligation) → list_all is_passed (a ++ b) ≡ (list_all is_passed a && list_all is_passed b)
all_append [] b = refl
all_append (e ∷ es) b = go (is_passed e) (all_append es b)
  where
    go : (v : Bool) → list_all is_passed (es ++ b) ≡ (list_all is_passed es && list_all is_passed b)
        → (v && list_all is_passed (es ++ b)) ≡ ((v && list_all is_passed es) && list_all is_passed b)
    go true h = h
    go false h = refl

-- How many are reached behind others: where these are passed, as many as there are in them and those behind; else as many as in them.
count_passed : (a b : List Obligation) → list_all is_passed a ≡ true → entailment_count (reached (a ++ b)) ≡ entailment_count a + entailment_count (reached b)
count_passed [] b h = omega arith
count_passed (e ∷ es) b h =
    let parts = and_parts (is_passed e) (list_all is_passed es) h in
    let first : reached (e ∷ (es ++ b)) ≡ e ∷ reached (es ++ b) = ap (λ v. cond v (e ∷ reached (es ++ b)) []) parts.0 in
    ap entailment_count first ∙ omega (arith, count_cons e (reached (es ++ b)), count_cons e es, count_passed es b parts.1)

count_all : (a : List Obligation) → list_all is_passed a ≡ true → entailment_count (reached a) ≡ entailment_count a
count_all a h =
    let k = count_passed a [] h in
    ap (λ es. entailment_count (reached es)) (sym (append-nil a)) ∙ k ∙ omega arith

count_stopped : (a b : List Obligation) → list_all is_passed a ≡ false → entailment_count (reached (a ++ b)) ≡ entailment_count (reached a)
count_stopped [] b h = cc
count_stopped (e ∷ es) b h = go (count_stopped es b) (is_passed e) h
  where
    go : (list_all is_passed es ≡ false → entailment_count (reached (es ++ b)) ≡ entailment_count (reached es)) → (v : Bool) → (v && list_all is_passed es) ≡ false
        → entailment_count (cond v (e ∷ reached (es ++ b)) []) ≡ entailment_count (cond v (e ∷ reached es) [])
    go rest true h = omega (arith, count_cons e (reached (es ++ b)), count_cons e (reached es), rest h)
    go rest false h = refl

append_alike : (a b c d : List Obligation) → Alike a c → Alike b d → Alike (a ++ b) (c ++ d)
append_alike a b c d h k = record {
  passed = all_append a b ∙ (λ i. h.passed i && k.passed i) ∙ sym (all_append c d);
  count = count_append a b ∙ (λ i. h.count i + k.count i) ∙ sym (count_append c d);
  reach = go (list_all is_passed a) refl;
}
  where
    go : (v : Bool) → list_all is_passed a ≡ v → entailment_count (reached (a ++ b)) ≡ entailment_count (reached (c ++ d))
    go true e = count_passed a b e ∙ (λ i. h.count i + k.reach i) ∙ sym (count_passed c d (sym h.passed ∙ e))
    go false e = count_stopped a b e ∙ h.reach ∙ sym (count_stopped c d (sym h.passed ∙ e))

abbrev AllAlike : (ess fss : List (List Obligation)) → Type 0
AllAlike [] [] = Unit {0}
AllAlike [] (fs ∷ fss) = ⊥
AllAlike (es ∷ ess) [] = ⊥
AllAlike (es ∷ ess) (fs ∷ fss) = Alike es fs × AllAlike ess fss

flat_alike : (ess fss : List (List Obligation)) → AllAlike ess fss → Alike (flat ess) (flat fss)
flat_alike [] [] h = alike_itself []
flat_alike [] (fs ∷ fss) h = absurd h
flat_alike (es ∷ ess) [] h = absurd h
flat_alike (es ∷ ess) (fs ∷ fss) h = append_alike es (flat ess) fs (flat fss) h.0 (flat_alike ess fss h.1)

passed_alike : (es fs : List Obligation) → list_all is_passed es ≡ true → list_all is_passed fs ≡ true → entailment_count es ≡ entailment_count fs → Alike es fs
passed_alike es fs h k n = record {
  passed = h ∙ sym k;
  count = n;
  reach = count_all es h ∙ n ∙ sym (count_all fs k);
}

all_mapped : {X : Type 0} (f : X → Obligation) (xs : List X) → ((x : X) → is_passed (f x) ≡ true) → list_all is_passed (map f xs) ≡ true
all_mapped f [] h = refl
all_mapped f (x ∷ xs) h = λ i. h x i && all_mapped f xs h i

-- Statements ---------------------------------------------------------------------------------------------------

module _ (p : Plain) (t : ℕ) where
  module _ (at : ℕ) where
    proved_passed : (proofs : List Proof) (n : ℕ) (gs : List Entailment) → list_all is_passed (proved p t at proofs n gs) ≡ true
    proved_passed proofs n [] = refl
    proved_passed proofs n (g ∷ gs) = λ i. or_right (is_proved proofs n g) true refl i && proved_passed proofs (suc n) gs i

    numbers_passed : (count : ℕ) (proofs : List Proof) → list_all is_passed (numbers p t at count proofs) ≡ true
    numbers_passed count proofs = all_mapped _ proofs (λ q. or_right (is_number count proofs q.number) true refl)

    proved_alike : (proofs : List Proof) (n : ℕ) (gs : List Entailment) → Alike (proved p t at [] n gs) (proved p t at proofs n gs)
    proved_alike proofs n gs =
        passed_alike (proved p t at [] n gs) (proved p t at proofs n gs) (proved_passed [] n gs) (proved_passed proofs n gs)
        (count_proved p t at [] n gs ∙ sym (count_proved p t at proofs n gs))

    numbers_alike : (count : ℕ) (proofs : List Proof) → Alike [] (numbers p t at count proofs)
    numbers_alike count proofs =
        passed_alike [] (numbers p t at count proofs) refl (numbers_passed count proofs) (sym (count_numbers p t at count proofs))

  mutual
    after_stm_same : (c : Stm) (a : Point) → after_stm p t (without_proofs_stm c) a ≡ after_stm p t c a
    after_stm_same (branch e yes_block no_block join) a = λ i. meet p t (after_block_same yes_block (with_guard p t a e) i) join
    after_stm_same _ a = refl

    after_block_same : (b : Block) (a : Point) → after_block p t (without_proofs b) a ≡ after_block p t b a
    after_block_same done a = refl
    after_block_same (more at c proofs b) a = λ i. after_block_same b (after_stm_same c a i) i

  mutual
    stm_entailments_same : (c : Stm) (at : ℕ) (a : Point) → stm_entailments p t (without_proofs_stm c) at a ≡ stm_entailments p t c at a
    stm_entailments_same (branch e yes_block no_block join) at a =
        let yes_start = with_guard p t a e in
        let no_start = with_guard p t a (neg e) in
        let gs = guard_follows p t a e ∷ [] in
        λ i. placed_from at 1 gs
        ++ (block_entailments_same yes_block yes_start i
        ++ (block_entailments_same no_block no_start i
        ++ placed_from at (suc (length gs)) (state_follows (after_block_same yes_block yes_start i) join ++ state_follows (after_block_same no_block no_start i) join)))
    stm_entailments_same (loop e inv b) at a =
        let head = meet p t a inv in
        let body_start = with_guard p t head e in
        let gs = state_follows a inv ++ guard_follows p t head e ∷ [] in
        λ i. placed_from at 1 gs
        ++ (block_entailments_same b body_start i ++ placed_from at (suc (length gs)) (state_follows (after_block_same b body_start i) inv))
    stm_entailments_same _ at a = refl

    block_entailments_same : (b : Block) (a : Point) → block_entailments p t (without_proofs b) a ≡ block_entailments p t b a
    block_entailments_same done a = refl
    block_entailments_same (more at c proofs b) a = λ i. stm_entailments_same c at a i ++ block_entailments_same b (after_stm_same c a i) i

  mutual
    parts_alike : (c : Stm) (at : ℕ) (proofs : List Proof) (a : Point) → AllAlike (stm_parts p t (without_proofs_stm c) at [] a) (stm_parts p t c at proofs a)
    parts_alike skip at proofs a = (numbers_alike at 0 proofs, tt)
    parts_alike (assign x e q retypes) at proofs a = (
      alike_itself _,
      (
        alike_itself _,
        (
          alike_itself _,
          (
            alike_itself _,
            (
              alike_itself _,
              (
                alike_itself _,
                (alike_itself _, (alike_itself _, (alike_itself _, (proved_alike at proofs 1 _, (numbers_alike at _ proofs, tt))))),
              ),
            ),
          ),
        ),
      ),
    )
    parts_alike (lock l) at proofs a = (alike_itself _, (alike_itself _, (alike_itself _, tt)))
    parts_alike (branch e yes_block no_block join) at proofs a =
        let yes_start = with_guard p t a e in
        let no_start = with_guard p t a (neg e) in
        rw (after_block_same yes_block yes_start, after_block_same no_block no_start) (
          alike_itself _,
          (
            alike_itself _,
            (
              alike_itself _,
              (
                proved_alike at proofs 1 (guard_follows p t a e ∷ []),
                (
                  block_alike yes_block yes_start,
                  (
                    block_alike no_block no_start,
                    (
                      alike_itself _,
                      (alike_itself _, (alike_itself _, (proved_alike at proofs _ _, (numbers_alike at _ proofs, tt)))),
                    ),
                  ),
                ),
              ),
            ),
          ),
        )
    parts_alike (loop e inv b) at proofs a =
        let body_start = with_guard p t (meet p t a inv) e in
        rw (after_block_same b body_start) (
          alike_itself _,
          (
            alike_itself _,
            (
              alike_itself _,
              (
                alike_itself _,
                (
                  proved_alike at proofs 1 _,
                  (
                    block_alike b body_start,
                    (
                      alike_itself _,
                      (alike_itself _, (proved_alike at proofs _ _, (numbers_alike at _ proofs, tt))),
                    ),
                  ),
                ),
              ),
            ),
          ),
        )
    parts_alike (output e) at proofs a = (alike_itself _, (alike_itself _, (proved_alike at proofs 1 (guard_follows p t a e ∷ []), (numbers_alike at _ proofs, tt))))
    parts_alike _ at proofs a = (alike_itself _, (alike_itself _, (proved_alike at proofs 1 _, (numbers_alike at _ proofs, tt))))

    block_alike : (b : Block) (a : Point) → Alike (block_obligations p t (without_proofs b) a) (block_obligations p t b a)
    block_alike done a = alike_itself []
    block_alike (more at c proofs b) a =
        rw (after_stm_same c a) (append_alike (flat (stm_parts p t (without_proofs_stm c) at [] a)) (block_obligations p t (without_proofs b) (after_stm p t c a))
        (flat (stm_parts p t c at proofs a)) (block_obligations p t b (after_stm p t c a))
        (flat_alike _ _ (parts_alike c at proofs a)) (block_alike b (after_stm p t c a)))

-- Threads ------------------------------------------------------------------------------------------------------

abbrev obligations_of : Plain → (t : ℕ) → Thread → List Obligation
obligations_of p t h = block_obligations p t h.body (start p t) ++ end_obligation p t h.end (after_block p t h.body (start p t)).held ∷ []

abbrev entailments_of : Plain → (t : ℕ) → Thread → List PlacedEntailment
entailments_of p t h = reached_entailments (obligations_of p t h) (block_entailments p t h.body (start p t))

of_thread_same : (p : Plain) (t : ℕ) (h : Thread) → entailments_of p t (thread_without_proofs h) ≡ entailments_of p t h
of_thread_same p t h =
    let alike : Alike (obligations_of p t (thread_without_proofs h)) (obligations_of p t h) =
    append_alike (block_obligations p t (without_proofs h.body) (start p t)) _ (block_obligations p t h.body (start p t)) _
    (block_alike p t h.body (start p t)) (rw (after_block_same p t h.body (start p t)) (alike_itself _)) in
    λ i. take (alike.reach i) (block_entailments_same p t h.body (start p t) i)

pub without_proofs_same : (p : Program) (t : ℕ) → thread_entailments (program_without_proofs p) t ≡ thread_entailments p t
without_proofs_same p t = (λ i. entailments_of (plain_same p i) t (numbered_same p t i)) ∙ of_thread_same (plain p) t (numbered p t)

pub put_in_same : (chosen : (t place : ℕ) → List (ℕ × Cert)) (p : Program) (t : ℕ) → thread_entailments (put_in_program chosen p) t ≡ thread_entailments p t
put_in_same chosen p t =
    sym (without_proofs_same (put_in_program chosen p) t) ∙ ap (λ q. thread_entailments q t) (program_kept chosen p) ∙ without_proofs_same p t
