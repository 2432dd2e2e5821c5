-- The entailments of the statement at a place are numbered from 1 on, in their order, where the places of statements differ.
use Rattle.std.proofs.Common.{◌≡◌, ℕ, zero, suc, ◌+◌, ◌==◌, ◌&&◌, ◌||◌, not, List, [], ◌∷◌, ◌++◌, length, take, Bool, true, false, cond, refl, sym, ap, ◌∙◌, subst, arith, IsTrue, true≢false, eq-eqb, eqb-true, ne_eqb}
use Rattle.std.specs.Prelude.{filter}
use Rattle.std.specs.List.{list_any}
use Rattle.std.proofs.lemmas.Bool.{and_parts, not-true, or_parts}
use Rattle.std.proofs.lemmas.List.{append-nil, append_assoc}
use Rattle.std.proofs.lemmas.List.Elements.{filter-append}
use Rattle.cov_expr.specs.Term.{neg}
use Rattle.cov_ast.specs.Plain.{Plain, plain}
use Rattle.cov_ast.specs.Syntax.{Stm, skip, lock, branch, loop, output, Block, done, more, Program}
use Rattle.cov_ast.specs.WellFormed.{are_distinct, places, places_within}
use Rattle.mode_compat.specs.Compatible.{numbered}
use Rattle.point_law.specs.Point.{Point}
use Rattle.point_law.specs.After.{start, with_guard, meet}
use Rattle.typing_law.specs.Blocks.{after_stm, after_block}
use Rattle.typing_law.specs.Counts.{entailment_count}
use Rattle.typing_law.specs.Entailments.{Entailment, guard_follows, state_follows}
use Rattle.typing_law.specs.ThreadEntailments.{PlacedEntailment, all_entailments, block_entailments, placed_from, reached, stm_entailments, thread_entailments}
use Rattle.typing_law.specs.ThreadObligations.{thread_obligations}

-- whether an entailment is of the statement at a place
abbrev pub is_at : ℕ → PlacedEntailment → Bool
is_at x g = g.place == x

abbrev pub at_place : ℕ → List PlacedEntailment → List PlacedEntailment
at_place x gs = filter (is_at x) gs

-- They are entailments of the statement at a place, numbered from 1 on.
abbrev pub AreNumbered : ℕ → List PlacedEntailment → Type 0
AreNumbered x gs = (es : List Entailment) × (gs ≡ placed_from x 1 es)

-- Places -------------------------------------------------------------------------------------------------------

abbrev pub is_in : ℕ → List ℕ → Bool
is_in x xs = list_any (λ y. x == y) xs

in_append : (x : ℕ) (xs ys : List ℕ) → is_in x (xs ++ ys) ≡ (is_in x xs || is_in x ys)
in_append x [] ys = refl
in_append x (y ∷ xs) ys = go (x == y) (in_append x xs ys)
  where
    go : (b : Bool) → is_in x (xs ++ ys) ≡ (is_in x xs || is_in x ys) → (b || is_in x (xs ++ ys)) ≡ ((b || is_in x xs) || is_in x ys)
    go true h = refl
    go false h = h

record Split (xs ys : List ℕ) : Type 0 where
  first : IsTrue (are_distinct (◌==◌) xs)
  second : IsTrue (are_distinct (◌==◌) ys)
  apart : (x : ℕ) → is_in x xs ≡ true → is_in x ys ≡ false

split : (xs ys : List ℕ) → IsTrue (are_distinct (◌==◌) (xs ++ ys)) → Split xs ys
split [] ys h = record { first = refl; second = h; apart = λ x i. absurd (true≢false (sym i)) }
split (y ∷ xs) ys h =
    let both = and_parts (not (is_in y (xs ++ ys))) (are_distinct (◌==◌) (xs ++ ys)) h in
    let rest = split xs ys both.1 in
    let none = or_parts (is_in y xs) (is_in y ys) (sym (in_append y xs ys) ∙ not-true (is_in y (xs ++ ys)) both.0) in
    record {
      first = λ i. not (none.0 i) && rest.first i;
      second = rest.second;
      apart = λ x. apart x (x == y) refl none.1 (rest.apart x);
    }
  where
    apart : (x : ℕ) (b : Bool) → (x == y) ≡ b → is_in y ys ≡ false → (is_in x xs ≡ true → is_in x ys ≡ false) → (b || is_in x xs) ≡ true → is_in x ys ≡ false
    apart x true e n f i = ap (λ z. is_in z ys) (eqb-true x y e) ∙ n
    apart x false e n f i = f i

-- Entailments of one statement ---------------------------------------------------------------------------------

swapped : (x y : ℕ) → (x == y) ≡ false → (y == x) ≡ false
swapped x y h = ne_eqb y x (λ e. true≢false (sym (eq-eqb x y (sym e)) ∙ h))

here : (x n : ℕ) (es : List Entailment) → at_place x (placed_from x n es) ≡ placed_from x n es
here x n [] = refl
here x n (e ∷ es) = λ i. cond (eq-eqb x x refl i) (record { place = x; number = n; entailment = e } ∷ here x (suc n) es i) (at_place x (placed_from x (suc n) es))

elsewhere : (x y n : ℕ) (es : List Entailment) → (x == y) ≡ false → at_place x (placed_from y n es) ≡ []
elsewhere x y n [] h = refl
elsewhere x y n (e ∷ es) h =
    λ i. cond (swapped x y h i) (record { place = y; number = n; entailment = e } ∷ at_place x (placed_from y (suc n) es)) (elsewhere x y (suc n) es h i)

then_more : (x n : ℕ) (es fs : List Entailment) → placed_from x n es ++ placed_from x (n + length es) fs ≡ placed_from x n (es ++ fs)
then_more x n [] fs = let e : n + 0 ≡ n = omega arith in ap (λ m. placed_from x m fs) e
then_more x n (e ∷ es) fs =
    let k : n + suc (length es) ≡ suc n + length es = omega arith in
    ap (λ gs. record { place = x; number = n; entailment = e } ∷ gs) (ap (λ m. placed_from x (suc n) es ++ placed_from x m fs) k ∙ then_more x (suc n) es fs)

-- Statements and blocks ----------------------------------------------------------------------------------------

-- three lists of which the first and the last have nothing at a place
between : (x : ℕ) (a b c : List PlacedEntailment) → at_place x a ≡ [] → at_place x c ≡ [] → at_place x (a ++ (b ++ c)) ≡ at_place x b
between x a b c h k =
    filter-append (is_at x) a (b ++ c) ∙ (λ i. h i ++ filter-append (is_at x) b c i) ∙ ap (λ gs. at_place x b ++ gs) k ∙ append-nil (at_place x b)

-- the first and the last of a statement, round others that are elsewhere
around : (x : ℕ) (es fs : List Entailment) (b : List PlacedEntailment) → at_place x b ≡ []
    → AreNumbered x (at_place x (placed_from x 1 es ++ (b ++ placed_from x (suc (length es)) fs)))
around x es fs b h = (
  es ++ fs,
  filter-append (is_at x) (placed_from x 1 es) (b ++ placed_from x (suc (length es)) fs)
      ∙ (λ i. here x 1 es i ++ filter-append (is_at x) b (placed_from x (suc (length es)) fs) i)
      ∙ (λ i. placed_from x 1 es ++ (h i ++ here x (suc (length es)) fs i))
      ∙ (let k : suc (length es) ≡ 1 + length es = omega arith in ap (λ m. placed_from x 1 es ++ placed_from x m fs) k)
      ∙ then_more x 1 es fs,
)

-- of two lists with entailments of statements of two lists of places, which have none in common
either : (x : ℕ) (xs ys : List ℕ) (a b : List PlacedEntailment) → ((y : ℕ) → is_in y xs ≡ true → is_in y ys ≡ false)
    → AreNumbered x (at_place x a) → AreNumbered x (at_place x b) → (is_in x xs ≡ false → at_place x a ≡ []) → (is_in x ys ≡ false → at_place x b ≡ [])
    → AreNumbered x (at_place x (a ++ b))
either x xs ys a b apart m n none_a none_b = go (is_in x xs) refl
  where
    go : (v : Bool) → is_in x xs ≡ v → AreNumbered x (at_place x (a ++ b))
    go true h = (m.0, filter-append (is_at x) a b ∙ (λ i. m.1 i ++ none_b (apart x h) i) ∙ append-nil (placed_from x 1 m.0))
    go false h = (n.0, filter-append (is_at x) a b ∙ (λ i. none_a h i ++ n.1 i))

-- of a statement at a place, and of the statements behind it
at_statement : (x at : ℕ) (first rest : List PlacedEntailment) (xs ys : List ℕ) → ((y : ℕ) → is_in y xs ≡ true → is_in y ys ≡ false)
    → is_in at ys ≡ false → AreNumbered at (at_place at first) → ((x == at) ≡ false → AreNumbered x (at_place x first)) → AreNumbered x (at_place x rest)
    → ((x == at) ≡ false → is_in x xs ≡ false → at_place x first ≡ []) → ((y : ℕ) → is_in y ys ≡ false → at_place y rest ≡ [])
    → AreNumbered x (at_place x (first ++ rest))
at_statement x at first rest xs ys apart none m n k none_first none_rest = go (x == at) refl
  where
    go : (v : Bool) → (x == at) ≡ v → AreNumbered x (at_place x (first ++ rest))
    go true e =
        subst (λ y. AreNumbered y (at_place y (first ++ rest))) (sym (eqb-true x at e))
        (m.0, filter-append (is_at at) first rest ∙ (λ i. m.1 i ++ none_rest at none i) ∙ append-nil (placed_from at 1 m.0))
    go false e = either x xs ys first rest apart (n e) k (none_first e) (none_rest x)

module _ (p : Plain) (t : ℕ) where
  mutual
    stm_elsewhere : (c : Stm) (at : ℕ) (a : Point) (x : ℕ) → (x == at) ≡ false → is_in x (places_within c) ≡ false → at_place x (stm_entailments p t c at a) ≡ []
    stm_elsewhere skip at a x h k = refl
    stm_elsewhere (lock l) at a x h k = refl
    stm_elsewhere (branch e yes_block no_block join) at a x h k =
        let yes_start = with_guard p t a e in
        let no_start = with_guard p t a (neg e) in
        let gs = guard_follows p t a e ∷ [] in
        let hs = state_follows (after_block p t yes_block yes_start) join ++ state_follows (after_block p t no_block no_start) join in
        let none = or_parts (is_in x (places yes_block)) (is_in x (places no_block)) (sym (in_append x (places yes_block) (places no_block)) ∙ k) in
        let yes = block_entailments p t yes_block yes_start in
        let no = block_entailments p t no_block no_start in
        let last = placed_from at (suc (length gs)) hs in
        filter-append (is_at x) (placed_from at 1 gs) (yes ++ (no ++ last))
        ∙ (λ i. elsewhere x at 1 gs h i ++ between x yes no last (block_elsewhere yes_block yes_start x none.0) (elsewhere x at (suc (length gs)) hs h) i)
        ∙ block_elsewhere no_block no_start x none.1
    stm_elsewhere (loop e inv b) at a x h k =
        let head = meet p t a inv in
        let body_start = with_guard p t head e in
        let gs = state_follows a inv ++ guard_follows p t head e ∷ [] in
        let hs = state_follows (after_block p t b body_start) inv in
        between x (placed_from at 1 gs) (block_entailments p t b body_start) (placed_from at (suc (length gs)) hs) (elsewhere x at 1 gs h)
        (elsewhere x at (suc (length gs)) hs h)
        ∙ block_elsewhere b body_start x k
    stm_elsewhere (output e) at a x h k = elsewhere x at 1 (guard_follows p t a e ∷ []) h
    stm_elsewhere _ at a x h k = elsewhere x at 1 _ h

    block_elsewhere : (b : Block) (a : Point) (x : ℕ) → is_in x (places b) ≡ false → at_place x (block_entailments p t b a) ≡ []
    block_elsewhere done a x h = refl
    block_elsewhere (more at c proofs b) a x h =
        let first = or_parts (x == at) (is_in x (places_within c ++ places b)) h in
        let rest = or_parts (is_in x (places_within c)) (is_in x (places b)) (sym (in_append x (places_within c) (places b)) ∙ first.1) in
        filter-append (is_at x) (stm_entailments p t c at a) (block_entailments p t b (after_stm p t c a))
        ∙ (λ i. stm_elsewhere c at a x first.0 rest.0 i ++ block_elsewhere b (after_stm p t c a) x rest.1 i)

  -- of the statement itself
  own : (c : Stm) (at : ℕ) (a : Point) → is_in at (places_within c) ≡ false → AreNumbered at (at_place at (stm_entailments p t c at a))
  own skip at a k = ([], refl)
  own (lock l) at a k = ([], refl)
  own (branch e yes_block no_block join) at a k =
      let yes_start = with_guard p t a e in
      let no_start = with_guard p t a (neg e) in
      let gs = guard_follows p t a e ∷ [] in
      let hs = state_follows (after_block p t yes_block yes_start) join ++ state_follows (after_block p t no_block no_start) join in
      let none = or_parts (is_in at (places yes_block)) (is_in at (places no_block)) (sym (in_append at (places yes_block) (places no_block)) ∙ k) in
      let yes = block_entailments p t yes_block yes_start in
      let no = block_entailments p t no_block no_start in
      let last = placed_from at (suc (length gs)) hs in
      let made = around at gs hs (yes ++ no)
      (filter-append (is_at at) yes no ∙ (λ i. block_elsewhere yes_block yes_start at none.0 i ++ block_elsewhere no_block no_start at none.1 i)) in
      (made.0, ap (λ rest. at_place at (placed_from at 1 gs ++ rest)) (sym (append_assoc yes no last)) ∙ made.1)
  own (loop e inv b) at a k =
      let head = meet p t a inv in
      let body_start = with_guard p t head e in
      let gs = state_follows a inv ++ guard_follows p t head e ∷ [] in
      let hs = state_follows (after_block p t b body_start) inv in
      around at gs hs (block_entailments p t b body_start) (block_elsewhere b body_start at k)
  own (output e) at a k = (guard_follows p t a e ∷ [], here at 1 (guard_follows p t a e ∷ []))
  own _ at a k = (_, here at 1 _)

  mutual
    stm_numbered : (c : Stm) (at : ℕ) (a : Point) (x : ℕ) → (x == at) ≡ false → IsTrue (are_distinct (◌==◌) (places_within c))
        → AreNumbered x (at_place x (stm_entailments p t c at a))
    stm_numbered skip at a x h d = ([], refl)
    stm_numbered (lock l) at a x h d = ([], refl)
    stm_numbered (branch e yes_block no_block join) at a x h d =
        let yes_start = with_guard p t a e in
        let no_start = with_guard p t a (neg e) in
        let gs = guard_follows p t a e ∷ [] in
        let hs = state_follows (after_block p t yes_block yes_start) join ++ state_follows (after_block p t no_block no_start) join in
        let yes = block_entailments p t yes_block yes_start in
        let no = block_entailments p t no_block no_start in
        let last = placed_from at (suc (length gs)) hs in
        let parts = split (places yes_block) (places no_block) d in
        let outer : at_place x (placed_from at 1 gs ++ (yes ++ (no ++ last))) ≡ at_place x (yes ++ no) =
        ap (λ rest. at_place x (placed_from at 1 gs ++ rest)) (sym (append_assoc yes no last))
        ∙ between x (placed_from at 1 gs) (yes ++ no) last (elsewhere x at 1 gs h) (elsewhere x at (suc (length gs)) hs h) in
        let made = either x (places yes_block) (places no_block) yes no parts.apart (block_numbered yes_block yes_start x parts.first)
        (block_numbered no_block no_start x parts.second) (λ k. block_elsewhere yes_block yes_start x k) (λ k. block_elsewhere no_block no_start x k) in
        (made.0, outer ∙ made.1)
    stm_numbered (loop e inv b) at a x h d =
        let head = meet p t a inv in
        let body_start = with_guard p t head e in
        let gs = state_follows a inv ++ guard_follows p t head e ∷ [] in
        let hs = state_follows (after_block p t b body_start) inv in
        let made = block_numbered b body_start x d in (
          made.0,
          between x (placed_from at 1 gs) (block_entailments p t b body_start) (placed_from at (suc (length gs)) hs) (elsewhere x at 1 gs h)
              (elsewhere x at (suc (length gs)) hs h)
              ∙ made.1,
        )
    stm_numbered (output e) at a x h d = ([], elsewhere x at 1 (guard_follows p t a e ∷ []) h)
    stm_numbered _ at a x h d = ([], elsewhere x at 1 _ h)

    block_numbered : (b : Block) (a : Point) (x : ℕ) → IsTrue (are_distinct (◌==◌) (places b)) → AreNumbered x (at_place x (block_entailments p t b a))
    block_numbered done a x d = ([], refl)
    block_numbered (more at c proofs b) a x d =
        let both = and_parts (not (is_in at (places_within c ++ places b))) (are_distinct (◌==◌) (places_within c ++ places b)) d in
        let none = or_parts (is_in at (places_within c)) (is_in at (places b))
        (sym (in_append at (places_within c) (places b)) ∙ not-true (is_in at (places_within c ++ places b)) both.0) in
        let parts = split (places_within c) (places b) both.1 in
        let first = stm_entailments p t c at a in
        let rest = block_entailments p t b (after_stm p t c a) in
        at_statement x at first rest (places_within c) (places b) parts.apart none.1 (own c at a none.0) (λ k. stm_numbered c at a x k parts.first)
        (block_numbered b (after_stm p t c a) x parts.second) (λ k m. stm_elsewhere c at a x k m) (λ y k. block_elsewhere b (after_stm p t c a) y k)

-- Threads ------------------------------------------------------------------------------------------------------

taken : (x n : ℕ) (gs : List PlacedEntailment) → (k : ℕ) × (at_place x (take n gs) ≡ take k (at_place x gs))
taken x zero gs = (0, refl)
taken x (suc n) [] = (0, refl)
taken x (suc n) (g ∷ gs) = go (is_at x g) (taken x n gs)
  where
    go : (b : Bool) → (k : ℕ) × (at_place x (take n gs) ≡ take k (at_place x gs))
        → (k : ℕ) × (cond b (g ∷ at_place x (take n gs)) (at_place x (take n gs)) ≡ take k (cond b (g ∷ at_place x gs) (at_place x gs)))
    go true h = (suc h.0, ap (λ hs. g ∷ hs) h.1)
    go false h = h

take_placed : (k x n : ℕ) (es : List Entailment) → take k (placed_from x n es) ≡ placed_from x n (take k es)
take_placed zero x n es = refl
take_placed (suc k) x n [] = refl
take_placed (suc k) x n (e ∷ es) = ap (λ gs. record { place = x; number = n; entailment = e } ∷ gs) (take_placed k x (suc n) es)

take_none : (k : ℕ) (gs : List PlacedEntailment) → gs ≡ [] → take k gs ≡ []
take_none zero gs h = refl
take_none (suc k) gs h = ap (take (suc k)) h

-- where no statement is, no entailment is
pub thread_elsewhere : (p : Program) (t x : ℕ) → is_in x (places (numbered p t).body) ≡ false → at_place x (thread_entailments p t) ≡ []
thread_elsewhere p t x h =
    let some = taken x (entailment_count (reached (thread_obligations p t))) (all_entailments p t) in
    some.1 ∙ take_none some.0 (at_place x (all_entailments p t)) (block_elsewhere (plain p) t (numbered p t).body (start (plain p) t) x h)

pub thread_numbered : (p : Program) (t : ℕ) → IsTrue (are_distinct (◌==◌) (places (numbered p t).body)) → (x : ℕ) → AreNumbered x (at_place x (thread_entailments p t))
thread_numbered p t d x =
    let all = all_entailments p t in
    let made = block_numbered (plain p) t (numbered p t).body (start (plain p) t) x d in
    let some = taken x (entailment_count (reached (thread_obligations p t))) all in
    (take some.0 made.0, some.1 ∙ ap (take some.0) made.1 ∙ take_placed some.0 x 1 made.0)
