-- Nothing is chosen for the places of `skip` and `lock`: no entailment is of such a statement, and the places of a thread differ.
use Rattle.std.proofs.Common.{◌≡◌, ◌⊎◌, inl, inr, ℕ, zero, suc, ◌+◌, ◌==◌, not, List, [], ◌∷◌, ◌++◌, length, map, take, get_or, true, if◌then◌else◌, refl, sym, ap, subst, ◌∙◌, arith, IsTrue, true≢false, eq-eqb, ne_eqb, ⊎_elim}
use Rattle.std.specs.List.{list_any}
use Rattle.std.proofs.lemmas.Bool.{and_parts, not-true, or_left, or_right}
use Rattle.cov_expr.specs.Term.{neg}
use Rattle.cov_grammar.specs.PlacedTrees as t
use Rattle.cov_ast.specs.Plain.{Plain, plain}
use Rattle.cov_ast.specs.Syntax.{Cert, Proof, Stm, skip, lock, branch, loop, output, Block, done, more, Parsed}
use Rattle.cov_ast.specs.WellFormed.{are_distinct, IsWellFormed, places, places_within}
use Rattle.cov_text.specs.GivenTrees.{block_of, parsed_of, thread_of}
use Rattle.cov_ast.specs.declared.parsed.NameUse.{NameUse}
use Rattle.mode_compat.specs.Compatible.{no_thread, numbered}
use Rattle.point_law.specs.Point.{Point}
use Rattle.point_law.specs.After.{meet, start, with_guard}
use Rattle.policy_class.specs.Resolved.{lock_id, resolved, resolved_block, resolved_thread, var_id}
use Rattle.typing_law.specs.Blocks.{after_block, after_stm}
use Rattle.typing_law.specs.Counts.{entailment_count}
use Rattle.typing_law.specs.Entailments.{Entailment, guard_follows, state_follows}
use Rattle.typing_law.specs.ThreadEntailments.{all_entailments, block_entailments, PlacedEntailment, placed_from, reached, stm_entailments, thread_entailments}
use Rattle.typing_law.specs.ThreadObligations.{thread_obligations}
use Rattle.annotate.specs.Annotated.{as_choice, choices_among, found_for}
use Rattle.annotate.specs.AnnotatedText.{unresolved_choice, unresolved_choices}
use Rattle.annotate.specs.WithCertificates.{put_in, put_in_stm, with_certs}
use Rattle.annotate.proofs.Changes.{block_with, proofs_with, stm_with}
use Rattle.annotate.proofs.ChoiceLaws.{places_differ}
use Rattle.annotate.proofs.PrintedTexts.{AreQuiet}

-- Members ------------------------------------------------------------------------------------------------------

abbrev Member : ℕ → List ℕ → Type 0
Member x [] = ⊥
Member x (y ∷ ys) = (y ≡ x) ⊎ Member x ys

in_left : (x : ℕ) (xs ys : List ℕ) → Member x xs → Member x (xs ++ ys)
in_left x [] ys h = absurd h
in_left x (y ∷ xs) ys (inl h) = inl h
in_left x (y ∷ xs) ys (inr h) = inr (in_left x xs ys h)

in_right : (x : ℕ) (xs ys : List ℕ) → Member x ys → Member x (xs ++ ys)
in_right x [] ys h = h
in_right x (y ∷ xs) ys h = inr (in_right x xs ys h)

in_either : (x : ℕ) (xs ys : List ℕ) → Member x (xs ++ ys) → Member x xs ⊎ Member x ys
in_either x [] ys h = inr h
in_either x (y ∷ xs) ys (inl h) = inl (inl h)
in_either x (y ∷ xs) ys (inr h) = ⊎_elim (λ i. inl (inr i)) (λ i. inr i) (in_either x xs ys h)

-- no two are equal
abbrev Differ : List ℕ → Type 0
Differ [] = Unit {0}
Differ (x ∷ xs) = (Member x xs → ⊥) × Differ xs

differ_left : (xs ys : List ℕ) → Differ (xs ++ ys) → Differ xs
differ_left [] ys d = tt
differ_left (x ∷ xs) ys d = (λ h. d.0 (in_left x xs ys h), differ_left xs ys d.1)

differ_right : (xs ys : List ℕ) → Differ (xs ++ ys) → Differ ys
differ_right [] ys d = d
differ_right (x ∷ xs) ys d = differ_right xs ys d.1

differ_apart : (x : ℕ) (xs ys : List ℕ) → Differ (xs ++ ys) → Member x xs → Member x ys → ⊥
differ_apart x [] ys d h g = h
differ_apart x (y ∷ xs) ys d (inl h) g = d.0 (subst (λ z. Member z (xs ++ ys)) (sym h) (in_right x xs ys g))
differ_apart x (y ∷ xs) ys d (inr h) g = differ_apart x xs ys d.1 h g

member_any : (x : ℕ) (xs : List ℕ) → Member x xs → list_any (λ y. x == y) xs ≡ true
member_any x [] h = absurd h
member_any x (y ∷ xs) (inl h) = or_left (x == y) (list_any (λ z. x == z) xs) (eq-eqb x y (sym h))
member_any x (y ∷ xs) (inr h) = or_right (x == y) (list_any (λ z. x == z) xs) (member_any x xs h)

distinct_differ : (xs : List ℕ) → IsTrue (are_distinct (◌==◌) xs) → Differ xs
distinct_differ [] h = tt
distinct_differ (x ∷ xs) h =
    let both = and_parts (not (list_any (λ y. x == y) xs)) (are_distinct (◌==◌) xs) h in
    (λ m. true≢false (sym (member_any x xs m) ∙ not-true (list_any (λ y. x == y) xs) both.0), distinct_differ xs both.1)

-- Places of statements -----------------------------------------------------------------------------------------

abbrev mutual
  -- the places of statements but for `skip` and `lock`
  asking_within : Stm → (at : ℕ) → List ℕ
  asking_within skip at = []
  asking_within (lock l) at = []
  asking_within (branch e a b join) at = at ∷ asking a ++ asking b
  asking_within (loop e inv b) at = at ∷ asking b
  asking_within _ at = at ∷ []

  asking : Block → List ℕ
  asking done = []
  asking (more at c proofs b) = asking_within c at ++ asking b

mutual
  within_placed : (c : Stm) (at x : ℕ) → Member x (asking_within c at) → (at ≡ x) ⊎ Member x (places_within c)
  within_placed skip at x h = absurd h
  within_placed (lock l) at x h = absurd h
  within_placed (branch e a b join) at x (inl h) = inl h
  within_placed (branch e a b join) at x (inr h) =
      inr (⊎_elim (λ i. in_left x (places a) (places b) (asking_placed a x i)) (λ i. in_right x (places a) (places b) (asking_placed b x i)) (in_either x (asking a) (asking b) h))
  within_placed (loop e inv b) at x (inl h) = inl h
  within_placed (loop e inv b) at x (inr h) = inr (asking_placed b x h)
  within_placed _ at x h = h

  asking_placed : (b : Block) (x : ℕ) → Member x (asking b) → Member x (places b)
  asking_placed done x h = absurd h
  asking_placed (more at c proofs b) x h =
      ⊎_elim (λ i. ⊎_elim (λ e. inl e) (λ j. inr (in_left x (places_within c) (places b) j)) (within_placed c at x i))
      (λ i. inr (in_right x (places_within c) (places b) (asking_placed b x i))) (in_either x (asking_within c at) (asking b) h)

-- what is so of the places of each `skip` and `lock`
module _ (P : ℕ → Type 0) where
  abbrev mutual
    QuietWithin : Stm → (at : ℕ) → Type 0
    QuietWithin skip at = P at
    QuietWithin (lock l) at = P at
    QuietWithin (branch e a b join) at = Quiet a × Quiet b
    QuietWithin (loop e inv b) at = Quiet b
    QuietWithin _ at = Unit {0}

    Quiet : Block → Type 0
    Quiet done = Unit {0}
    Quiet (more at c proofs b) = QuietWithin c at × Quiet b

  -- it is so where it is so of each place that isn't that of another statement
  mutual
    within_quiet : (c : Stm) (at : ℕ) (rest : List ℕ) → Differ (at ∷ places_within c ++ rest)
        → ((x : ℕ) → Member x (at ∷ places_within c ++ rest) → (Member x (asking_within c at) → ⊥) → (Member x rest → ⊥) → P x) → QuietWithin c at
    within_quiet skip at rest d f = f at (inl refl) (λ h. h) d.0
    within_quiet (lock l) at rest d f = f at (inl refl) (λ h. h) d.0
    within_quiet (branch e a b join) at rest d f =
        let inner = differ_left (places a ++ places b) rest d.1 in (
          block_quiet a (differ_left (places a) (places b) inner)
              (λ x m n. f x (inr (in_left x (places a ++ places b) rest (in_left x (places a) (places b) m)))
              (λ h. ⊎_elim (λ i. d.0 (subst (λ y. Member y ((places a ++ places b) ++ rest)) (sym i) (in_left x (places a ++ places b) rest (in_left x (places a) (places b) m))))
              (λ i. ⊎_elim n (λ j. differ_apart x (places a) (places b) inner m (asking_placed b x j)) (in_either x (asking a) (asking b) i)) h)
              (differ_apart x (places a ++ places b) rest d.1 (in_left x (places a) (places b) m))),
          block_quiet b (differ_right (places a) (places b) inner)
              (λ x m n. f x (inr (in_left x (places a ++ places b) rest (in_right x (places a) (places b) m)))
              (λ h. ⊎_elim (λ i. d.0 (subst (λ y. Member y ((places a ++ places b) ++ rest)) (sym i) (in_left x (places a ++ places b) rest (in_right x (places a) (places b) m))))
              (λ i. ⊎_elim (λ j. differ_apart x (places a) (places b) inner (asking_placed a x j) m) n (in_either x (asking a) (asking b) i)) h)
              (differ_apart x (places a ++ places b) rest d.1 (in_right x (places a) (places b) m))),
        )
    within_quiet (loop e inv b) at rest d f =
        block_quiet b (differ_left (places b) rest d.1)
        (λ x m n. f x (inr (in_left x (places b) rest m))
        (λ h. ⊎_elim (λ i. d.0 (subst (λ y. Member y (places b ++ rest)) (sym i) (in_left x (places b) rest m))) n h) (differ_apart x (places b) rest d.1 m))
    within_quiet _ at rest d f = tt

    block_quiet : (b : Block) → Differ (places b) → ((x : ℕ) → Member x (places b) → (Member x (asking b) → ⊥) → P x) → Quiet b
    block_quiet done d f = tt
    block_quiet (more at c proofs b) d f = (
      within_quiet c at (places b) d
          (λ x m n k. f x m (λ h. ⊎_elim n (λ i. k (asking_placed b x i)) (in_either x (asking_within c at) (asking b) h))),
      block_quiet b (differ_right (places_within c) (places b) d.1)
          (λ x m n. f x (inr (in_right x (places_within c) (places b) m))
          (λ h. ⊎_elim (λ i. ⊎_elim (λ e. d.0 (subst (λ y. Member y (places_within c ++ places b)) (sym e) (in_right x (places_within c) (places b) m)))
          (λ j. differ_apart x (places_within c) (places b) d.1 j m) (within_placed c at x i)) n (in_either x (asking_within c at) (asking b) h))),
    )

  -- the same of names by number
  module _ (f l : ℕ → ℕ) where
    mutual
      within_unresolved : (c : Stm) (at : ℕ) → QuietWithin (Rattle.policy_class.specs.Resolved.resolved_stm f l c) at → QuietWithin c at
      within_unresolved skip at h = h
      within_unresolved (lock k) at h = h
      within_unresolved (branch e a b join) at h = (quiet_unresolved a h.0, quiet_unresolved b h.1)
      within_unresolved (loop e inv b) at h = quiet_unresolved b h
      within_unresolved _ at h = tt

      quiet_unresolved : (b : Block) → Quiet (resolved_block f l b) → Quiet b
      quiet_unresolved done h = tt
      quiet_unresolved (more at c proofs b) h = (within_unresolved c at h.0, quiet_unresolved b h.1)

-- What is put in -----------------------------------------------------------------------------------------------

none_put : (qs : List Proof) → with_certs [] qs ≡ qs
none_put [] = refl
none_put (q ∷ qs) = ap (λ rs. q ∷ rs) (none_put qs)

module _ (chosen : ℕ → List (ℕ × Cert)) where
  abbrev Nothing : ℕ → Type 0
  Nothing x = chosen x ≡ []

  mutual
    stm_same : (c : Stm) (at : ℕ) → QuietWithin Nothing c at → stm_with chosen c ≡ put_in_stm chosen c
    stm_same (branch e a b join) at h = λ i. branch e (block_same a h.0 i) (block_same b h.1 i) join
    stm_same (loop e inv b) at h = λ i. loop e inv (block_same b h i)
    stm_same _ at h = refl

    block_same : (b : Block) → Quiet Nothing b → block_with chosen b ≡ put_in chosen b
    block_same done h = refl
    block_same (more at c proofs b) h = λ i. more at (stm_same c at h.0 i) (proofs_same c at proofs h.0 i) (block_same b h.1 i)

    proofs_same : (c : Stm) (at : ℕ) (qs : List Proof) → QuietWithin Nothing c at → proofs_with c (chosen at) qs ≡ with_certs (chosen at) qs
    proofs_same skip at qs h = sym (ap (λ cs. with_certs cs qs) h ∙ none_put qs)
    proofs_same (lock l) at qs h = sym (ap (λ cs. with_certs cs qs) h ∙ none_put qs)
    proofs_same _ at qs h = refl

-- Entailments --------------------------------------------------------------------------------------------------

-- no entailment is of the statement at a place
abbrev AreElsewhere : ℕ → List PlacedEntailment → Type 0
AreElsewhere x [] = Unit {0}
AreElsewhere x (g ∷ gs) = (g.place ≡ x → ⊥) × AreElsewhere x gs

elsewhere_append : (x : ℕ) (gs hs : List PlacedEntailment) → AreElsewhere x gs → AreElsewhere x hs → AreElsewhere x (gs ++ hs)
elsewhere_append x [] hs h k = k
elsewhere_append x (g ∷ gs) hs h k = (h.0, elsewhere_append x gs hs h.1 k)

elsewhere_take : (x n : ℕ) (gs : List PlacedEntailment) → AreElsewhere x gs → AreElsewhere x (take n gs)
elsewhere_take x zero gs h = tt
elsewhere_take x (suc n) [] h = tt
elsewhere_take x (suc n) (g ∷ gs) h = (h.0, elsewhere_take x n gs h.1)

placed_elsewhere : (x at n : ℕ) (gs : List Entailment) → (at ≡ x → ⊥) → AreElsewhere x (placed_from at n gs)
placed_elsewhere x at n [] h = tt
placed_elsewhere x at n (g ∷ gs) h = (h, placed_elsewhere x at (suc n) gs h)

module _ (P : Plain) (u x : ℕ) where
  mutual
    stm_elsewhere : (c : Stm) (at : ℕ) (a : Point) → (Member x (asking_within c at) → ⊥) → AreElsewhere x (stm_entailments P u c at a)
    stm_elsewhere skip at a h = tt
    stm_elsewhere (lock l) at a h = tt
    stm_elsewhere (branch e yes_block no_block join) at a h =
        let yes_start = with_guard P u a e in
        let no_start = with_guard P u a (neg e) in
        let gs = guard_follows P u a e ∷ [] in
        let hs = state_follows (after_block P u yes_block yes_start) join ++ state_follows (after_block P u no_block no_start) join in
        let yes = block_entailments P u yes_block yes_start in
        let no = block_entailments P u no_block no_start in
        let last = placed_from at (suc (length gs)) hs in
        elsewhere_append x (placed_from at 1 gs) (yes ++ (no ++ last)) (placed_elsewhere x at 1 gs (λ i. h (inl i)))
        (elsewhere_append x yes (no ++ last) (block_elsewhere yes_block yes_start (λ i. h (inr (in_left x (asking yes_block) (asking no_block) i))))
        (elsewhere_append x no last (block_elsewhere no_block no_start (λ i. h (inr (in_right x (asking yes_block) (asking no_block) i))))
        (placed_elsewhere x at (suc (length gs)) hs (λ i. h (inl i)))))
    stm_elsewhere (loop e inv b) at a h =
        let head = meet P u a inv in
        let body_start = with_guard P u head e in
        let gs = state_follows a inv ++ guard_follows P u head e ∷ [] in
        let hs = state_follows (after_block P u b body_start) inv in
        let inner = block_entailments P u b body_start in
        let last = placed_from at (suc (length gs)) hs in
        elsewhere_append x (placed_from at 1 gs) (inner ++ last) (placed_elsewhere x at 1 gs (λ i. h (inl i)))
        (elsewhere_append x inner last (block_elsewhere b body_start (λ i. h (inr i))) (placed_elsewhere x at (suc (length gs)) hs (λ i. h (inl i))))
    stm_elsewhere (output e) at a h = placed_elsewhere x at 1 (guard_follows P u a e ∷ []) (λ i. h (inl i))
    stm_elsewhere _ at a h = placed_elsewhere x at 1 _ (λ i. h (inl i))

    block_elsewhere : (b : Block) (a : Point) → (Member x (asking b) → ⊥) → AreElsewhere x (block_entailments P u b a)
    block_elsewhere done a h = tt
    block_elsewhere (more at c proofs b) a h =
        elsewhere_append x (stm_entailments P u c at a) (block_entailments P u b (after_stm P u c a))
        (stm_elsewhere c at a (λ i. h (in_left x (asking_within c at) (asking b) i)))
        (block_elsewhere b (after_stm P u c a) (λ i. h (in_right x (asking_within c at) (asking b) i)))

-- Choices ------------------------------------------------------------------------------------------------------

none_among : (depth : ℕ) (body : Block) (x : ℕ) (gs : List PlacedEntailment) → AreElsewhere x gs → choices_among depth body gs x ≡ []
none_among depth body x [] h = refl
none_among depth body x (g ∷ gs) h =
    ap (λ b. (if b then as_choice g.number (found_for depth body g) else []) ++ choices_among depth body gs x) (ne_eqb g.place x h.0) ∙ none_among depth body x gs h.1

module _ (depth : ℕ) (p : Parsed) (formed : IsWellFormed (resolved p)) where
  body_quiet : (u : ℕ) → Quiet (λ x. unresolved_choices depth p u x ≡ []) (numbered (resolved p) u).body
  body_quiet u =
      let P = resolved p in
      let b = (numbered P u).body in
      block_quiet (λ x. unresolved_choices depth p u x ≡ []) b (distinct_differ (places b) (places_differ P formed u))
      (λ x m n. ap (map (unresolved_choice p))
      (none_among depth b x (thread_entailments P u)
      (elsewhere_take x (entailment_count (reached (thread_obligations P u))) (all_entailments P u) (block_elsewhere (plain P) u x b (start (plain P) u) n))))

  -- of the threads from a number on
  threads_quiet : (names : List (List ℕ)) (u : ℕ) (hs : List t.Thread)
      → ((k : ℕ) → numbered (resolved p) (u + k) ≡ get_or (map (resolved_thread (var_id p) (lock_id p)) (map (thread_of names) hs)) k no_thread)
      → AreQuiet names (unresolved_choices depth p) u hs
  threads_quiet names u [] h = tt
  threads_quiet names u (x ∷ hs) h =
      let here : u ≡ u + 0 = omega arith in
      let Q : ℕ → Type 0 = λ v. unresolved_choices depth p u v ≡ [] in
      let body : (numbered (resolved p) u).body ≡ resolved_block (var_id p) (lock_id p) (block_of x.body) = ap (λ v. (numbered (resolved p) v).body) here ∙ ap (λ y. y.body) (h 0) in (
        block_same (unresolved_choices depth p u) (block_of x.body) (quiet_unresolved Q (var_id p) (lock_id p) (block_of x.body) (subst (Quiet Q) body (body_quiet u))),
        threads_quiet names (suc u) hs (λ k. let next : suc u + k ≡ u + suc k = omega arith in ap (numbered (resolved p)) next ∙ h (suc k)),
      )

-- Nothing is chosen for `skip` and `lock`.
pub choices_quiet : (depth : ℕ) (names : List (List ℕ)) (uses : List NameUse) (tree : t.Program) → IsWellFormed (resolved (parsed_of names uses tree))
    → AreQuiet names (unresolved_choices depth (parsed_of names uses tree)) 0 tree.threads
choices_quiet depth names uses tree formed =
    threads_quiet depth (parsed_of names uses tree) formed names 0 tree.threads (λ k. let same : 0 + k ≡ k = omega arith in ap (numbered (resolved (parsed_of names uses tree))) same)
