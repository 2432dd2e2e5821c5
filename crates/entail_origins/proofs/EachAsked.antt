-- Where the rules of types have an entailment of a number at a place of a text, there is a question of that number at the place.
use Rattle.std.proofs.Common.{◌≡◌, ◌⊎◌, ℕ, zero, suc, ◌+◌, ◌<◌, ◌≤◌, ◌==◌, ◌&&◌, not, List, [], ◌∷◌, ◌++◌, length, Bool, true, false, true≢false, refl, sym, ap, subst, take, ◌∙◌, inl, inr, arith, Option, Some, None, option_map, if◌then◌else◌}
use Rattle.std.specs.Prelude.{slice_get, IsSome}
use Rattle.std.specs.Option.{option_or}
use Rattle.std.specs.List.{list_any}
use Rattle.std.proofs.lemmas.Bool.{and_parts, or_parts, not-true, eqb-true, eq-eqb}
use Rattle.std.proofs.lemmas.List.{length-append}
use Rattle.cov_expr.specs.Term.{neg}
use Rattle.cov_ast.specs.Plain.{Plain, plain}
use Rattle.cov_ast.specs.Syntax.{Stm, branch, loop, Block, done, more, Proof, Program}
use Rattle.cov_ast.specs.WellFormed.{IsWellFormed, are_distinct, places, places_within}
use Rattle.mode_compat.specs.Compatible.{no_thread, numbered}
use Rattle.statement_paths.specs.Paths.{Step, passed, yes, no, head, Way, here, with_steps_in_front, way_to, way_within}
use Rattle.typing_law.specs.Blocks.{after_stm, after_block}
use Rattle.typing_law.specs.Counts.{entailment_count}
use Rattle.typing_law.specs.Entailments.{Entailment, guard_follows, state_follows}
use Rattle.typing_law.specs.ThreadEntailments.{PlacedEntailment, placed_from, stm_entailments, block_entailments, entailment_among, all_entailments, reached, thread_entailments}
use Rattle.typing_law.specs.ThreadObligations.{thread_obligations}
use Rattle.point_law.specs.After.{meet, start, with_guard}
use Rattle.point_law.specs.Point.{Point}
use Rattle.cov_ast.specs.LocksAlong.{no_locks}
use Rattle.statement_paths.specs.LocksHeld.{held_along}
use Rattle.entail_origins.specs.OwnEntailments.{own_entailments}
use Rattle.entail_origins.specs.Questions.{asked, asked_among, asked_of_way, questions}
use Rattle.entail_origins.specs.declared.kinds.Asked.{Asked}
use Rattle.entail_origins.specs.declared.kinds.Question.{Question}
use Rattle.statement_paths.proofs.HeldAtPoints.{after_held}
use Rattle.entail_origins.proofs.QuestionCounts.{as_many}

-- What is there --------------------------------------------------------------------------------------------------

abbrev pub There : {A : Type 0} → Option A → Type 0
There None = ⊥
There (Some x) = Unit {0}

abbrev pub In : (x : ℕ) → List ℕ → Type 0
In x [] = ⊥
In x (y ∷ ys) = (y ≡ x) ⊎ In x ys

pub in_left : (x : ℕ) (xs ys : List ℕ) → In x xs → In x (xs ++ ys)
in_left x [] ys h = absurd h
in_left x (y ∷ xs) ys (inl h) = inl h
in_left x (y ∷ xs) ys (inr h) = inr (in_left x xs ys h)

pub in_right : (x : ℕ) (xs ys : List ℕ) → In x ys → In x (xs ++ ys)
in_right x [] ys h = h
in_right x (y ∷ xs) ys h = inr (in_right x xs ys h)

eqb_same : (n : ℕ) → (n == n) ≡ true
eqb_same n = eq-eqb n n refl

-- Numbers that differ ----------------------------------------------------------------------------------------------

abbrev pub Differ : List ℕ → Type 0
Differ [] = Unit {0}
Differ (x ∷ xs) = (In x xs → ⊥) × Differ xs

not_in : (x : ℕ) (xs : List ℕ) → list_any (λ y. x == y) xs ≡ false → In x xs → ⊥
not_in x [] h k = k
not_in x (y ∷ ys) h (inl k) =
    let parts = or_parts (x == y) (list_any (λ z. x == z) ys) h in
    true≢false (sym (eqb_same x) ∙ ap (λ z. x == z) (sym k) ∙ parts.0)
not_in x (y ∷ ys) h (inr k) = not_in x ys (or_parts (x == y) (list_any (λ z. x == z) ys) h).1 k

pub differ : (xs : List ℕ) → are_distinct (◌==◌) xs ≡ true → Differ xs
differ [] h = tt
differ (x ∷ xs) h =
    let parts = and_parts (not (list_any (λ y. x == y) xs)) (are_distinct (◌==◌) xs) h in
    (not_in x xs (not-true (list_any (λ y. x == y) xs) parts.0), differ xs parts.1)

pub differ_left : (xs ys : List ℕ) → Differ (xs ++ ys) → Differ xs
differ_left [] ys d = tt
differ_left (x ∷ xs) ys d = ((λ h. d.0 (in_left x xs ys h)), differ_left xs ys d.1)

pub differ_right : (xs ys : List ℕ) → Differ (xs ++ ys) → Differ ys
differ_right [] ys d = d
differ_right (x ∷ xs) ys d = differ_right xs ys d.1

pub apart : (x : ℕ) (xs ys : List ℕ) → Differ (xs ++ ys) → In x ys → In x xs → ⊥
apart x [] ys d h k = k
apart x (y ∷ xs) ys d h (inl k) = d.0 (in_right y xs ys (subst (λ z. In z ys) (sym k) h))
apart x (y ∷ xs) ys d h (inr k) = apart x xs ys d.1 h k

-- Entailments by place and number -----------------------------------------------------------------------------------

module _ (place number : ℕ) where
  picked : (b : Bool) (g : PlacedEntailment) (whole first second : Option PlacedEntailment) → (There whole → There first ⊎ There second)
      → There (if b then Some g else whole) → There (if b then Some g else first) ⊎ There second
  picked true g whole first second rest h = inl tt
  picked false g whole first second rest h = rest h

  in_one : (gs hs : List PlacedEntailment) → There (entailment_among (gs ++ hs) place number)
      → There (entailment_among gs place number) ⊎ There (entailment_among hs place number)
  in_one [] hs h = inr h
  in_one (g ∷ gs) hs h =
      picked (g.place == place && g.number == number) g (entailment_among (gs ++ hs) place number) (entailment_among gs place number)
      (entailment_among hs place number) (in_one gs hs) h

  -- one of a list that stands at a place, numbered from n on
  abbrev IsNumbered : (at n count : ℕ) → Type 0
  IsNumbered at n count = (at ≡ place) × (n ≤ number) × (number < n + count)

  of_placed : (at n : ℕ) (gs : List Entailment) → There (entailment_among (placed_from at n gs) place number) → IsNumbered at n (length gs)
  of_placed at n [] h = absurd h
  of_placed at n (g ∷ gs) h = by (at == place && n == number) refl (of_placed at (suc n) gs) h
    where
      by : (b : Bool) → (at == place && n == number) ≡ b → (There (entailment_among (placed_from at (suc n) gs) place number) → IsNumbered at (suc n) (length gs))
          → There (if b then Some (record { place = at; number = n; entailment = g }) else entailment_among (placed_from at (suc n) gs) place number)
          → IsNumbered at n (length (g ∷ gs))
      by true is later k =
          let parts = and_parts (at == place) (n == number) is in
          let same : n ≡ number = eqb-true n number parts.1 in
          (eqb-true at place parts.0, omega (arith, same), omega (arith, same))
      by false is later k =
          let rest = later k in
          (rest.0, omega (arith, rest.1), omega (arith, rest.2))

  -- Questions by number ----------------------------------------------------------------------------------------------

  item_there : (all : List Question) (i : ℕ) → i < length all → There (slice_get all i)
  item_there [] i h = absurd (omega (arith, h))
  item_there (x ∷ all) zero h = tt
  item_there (x ∷ all) (suc i) h = item_there all i (omega (arith, h))

  mapped_there : {X Y : Type 0} (f : X → Y) (o : Option X) → There o → There (option_map f o)
  mapped_there f None h = h
  mapped_there f (Some x) h = tt

  among_there : (all : List Question) (n : ℕ) → 1 ≤ n → n < 1 + length all → There (asked_among all n)
  among_there all zero low high = absurd (omega (arith, low))
  among_there all (suc i) low high = mapped_there (λ found. record { question = found; of = length all }) (slice_get all i) (item_there all i (omega (arith, high)))

  module _ (p : Plain) (t : ℕ) where
    abbrev asked_from : (held : List Bool) → Option Way → Option Asked
    asked_from held None = None
    asked_from held (Some w) = asked_among (questions p t (held_along w.steps held) w.stm) number

    first_asked : (held : List Bool) (first second : Option Way) → There (asked_from held first) → There (asked_from held (option_or first second))
    first_asked held None second h = absurd h
    first_asked held (Some w) second h = h

    second_asked : (held : List Bool) (first second : Option Way) → first ≡ None → There (asked_from held second) → There (asked_from held (option_or first second))
    second_asked held first second none h = subst (λ o. There (asked_from held (option_or o second))) (sym none) h

    one_step : (held : List Bool) (s : Step) (o : Option Way) → There (asked_from (held_along (s ∷ []) held) o) → There (asked_from held (option_map (with_steps_in_front (s ∷ [])) o))
    one_step held s None h = h
    one_step held s (Some w) h = h

    two_steps : (held : List Bool) (s s2 : Step) (o : Option Way) → There (asked_from (held_along (s ∷ s2 ∷ []) held) o)
        → There (asked_from held (option_map (with_steps_in_front (s ∷ s2 ∷ [])) o))
    two_steps held s s2 None h = h
    two_steps held s s2 (Some w) h = h

    abbrev pub way_from : (at : ℕ) → Stm → List Proof → Option Way
    way_from at s proofs = if at == place then Some (here s proofs) else way_within at s place

    -- of the statement itself
    at_itself : (at : ℕ) (s : Stm) (proofs : List Proof) (held : List Bool) → at ≡ place → 1 ≤ number → number < 1 + length (questions p t held s)
        → There (asked_from held (way_from at s proofs))
    at_itself at s proofs held is low high =
        subst (λ b. There (asked_from held (if b then Some (here s proofs) else way_within at s place)))
        (sym (eqb_same place) ∙ ap (λ n. n == place) (sym is))
        (among_there (questions p t held s) number low high)

    -- of one in its blocks
    further_in : (at : ℕ) (s : Stm) (proofs : List Proof) (held : List Bool) → (at ≡ place → ⊥) → There (asked_from held (way_within at s place))
        → There (asked_from held (way_from at s proofs))
    further_in at s proofs held other h = by (at == place) refl
      where
        by : (b : Bool) → (at == place) ≡ b → There (asked_from held (if b then Some (here s proofs) else way_within at s place))
        by true is = absurd (other (eqb-true at place is))
        by false is = h

    -- Where nothing stands ---------------------------------------------------------------------------------------------

    pub no_way_from : (at : ℕ) (s : Stm) (proofs : List Proof) → (at ≡ place → ⊥) → way_within at s place ≡ None → way_from at s proofs ≡ None
    no_way_from at s proofs other none = by (at == place) refl
      where
        by : (b : Bool) → (at == place) ≡ b → (if b then Some (here s proofs) else way_within at s place) ≡ None
        by true is = absurd (other (eqb-true at place is))
        by false is = none

    mutual
      pub no_way_within : (at : ℕ) (s : Stm) → (In place (places_within s) → ⊥) → way_within at s place ≡ None
      no_way_within at (branch e a b join) out =
          ap (λ o. option_or (option_map (with_steps_in_front (yes at e ∷ [])) o) (option_map (with_steps_in_front (no at e ∷ [])) (way_to b place))) (no_way a (λ h. out (in_left place (places a) (places b) h)))
          ∙ ap (λ o. option_map (with_steps_in_front (no at e ∷ [])) o) (no_way b (λ h. out (in_right place (places a) (places b) h)))
      no_way_within at (loop e inv b) out = ap (λ o. option_map (with_steps_in_front (head at inv ∷ yes at e ∷ [])) o) (no_way b out)
      no_way_within at _ out = refl

      pub no_way : (b : Block) → (In place (places b) → ⊥) → way_to b place ≡ None
      no_way done out = refl
      no_way (more at s proofs rest) out =
          ap (λ o. option_or o (option_map (with_steps_in_front (passed at s ∷ [])) (way_to rest place)))
          (no_way_from at s proofs (λ h. out (inl h)) (no_way_within at s (λ h. out (inr (in_left place (places_within s) (places rest) h)))))
          ∙ ap (λ o. option_map (with_steps_in_front (passed at s ∷ [])) o) (no_way rest (λ h. out (inr (in_right place (places_within s) (places rest) h))))

    -- Where an entailment stands ---------------------------------------------------------------------------------------

    by_either : {A B : Type 0} (C : Type 0) → A ⊎ B → (A → C) → (B → C) → C
    by_either C (inl h) f g = f h
    by_either C (inr h) f g = g h

    in_three : (C : Type 0) (xs ys zs : List PlacedEntailment) → There (entailment_among (xs ++ (ys ++ zs)) place number)
        → (There (entailment_among xs place number) → C) → (There (entailment_among ys place number) → C) → (There (entailment_among zs place number) → C) → C
    in_three C xs ys zs h f g k = by_either C (in_one xs (ys ++ zs) h) f (λ r. by_either C (in_one ys zs r) g k)

    in_four : (C : Type 0) (xs ys zs ws : List PlacedEntailment) → There (entailment_among (xs ++ (ys ++ (zs ++ ws))) place number)
        → (There (entailment_among xs place number) → C) → (There (entailment_among ys place number) → C) → (There (entailment_among zs place number) → C)
        → (There (entailment_among ws place number) → C) → C
    in_four C xs ys zs ws h f g k l = by_either C (in_one xs (ys ++ (zs ++ ws)) h) f (λ r. in_three C ys zs ws r g k l)

    mutual
      stands_at : (s : Stm) (at : ℕ) (a : Point) → There (entailment_among (stm_entailments p t s at a) place number) → (at ≡ place) ⊎ In place (places_within s)
      stands_at (branch e yes_block no_block join) at a h =
          let gs = guard_follows p t a e ∷ [] in
          let hs = state_follows (after_block p t yes_block (with_guard p t a e)) join ++ state_follows (after_block p t no_block (with_guard p t a (neg e))) join in
          in_four ((at ≡ place) ⊎ In place (places yes_block ++ places no_block)) (placed_from at 1 gs) (block_entailments p t yes_block (with_guard p t a e))
          (block_entailments p t no_block (with_guard p t a (neg e))) (placed_from at (suc (length gs)) hs) h
          (λ k. inl (of_placed at 1 gs k).0)
          (λ k. inr (in_left place (places yes_block) (places no_block) (stands_in yes_block (with_guard p t a e) k)))
          (λ k. inr (in_right place (places yes_block) (places no_block) (stands_in no_block (with_guard p t a (neg e)) k)))
          (λ k. inl (of_placed at (suc (length gs)) hs k).0)
      stands_at (loop e inv b) at a h =
          let start = with_guard p t (meet p t a inv) e in
          let gs = state_follows a inv ++ guard_follows p t (meet p t a inv) e ∷ [] in
          let hs = state_follows (after_block p t b start) inv in
          in_three ((at ≡ place) ⊎ In place (places b)) (placed_from at 1 gs) (block_entailments p t b start) (placed_from at (suc (length gs)) hs) h
          (λ k. inl (of_placed at 1 gs k).0) (λ k. inr (stands_in b start k)) (λ k. inl (of_placed at (suc (length gs)) hs k).0)
      stands_at s at a h = inl (of_placed at 1 (own_entailments p t s a) h).0

      pub stands_in : (b : Block) (a : Point) → There (entailment_among (block_entailments p t b a) place number) → In place (places b)
      stands_in done a h = absurd h
      stands_in (more at s proofs rest) a h =
          by_either (In place (places (more at s proofs rest))) (in_one (stm_entailments p t s at a) (block_entailments p t rest (after_stm p t s a)) h)
          (λ k. by_either (In place (places (more at s proofs rest))) (stands_at s at a k) (λ is. inl is) (λ r. inr (in_left place (places_within s) (places rest) r)))
          (λ k. inr (in_right place (places_within s) (places rest) (stands_in rest (after_stm p t s a) k)))

    -- Each is asked ----------------------------------------------------------------------------------------------------

    -- one of a statement's own
    own_asked : (s : Stm) (proofs : List Proof) (at : ℕ) (a : Point) (n count : ℕ) → IsNumbered at n count → 1 ≤ n → n + count ≤ 1 + length (questions p t a.held s)
        → There (asked_from a.held (way_from at s proofs))
    own_asked s proofs at a n count is low high = at_itself at s proofs a.held is.0 (omega (arith, is.1, low)) (omega (arith, is.2, high))

    mutual
      asked_at : (s : Stm) (proofs : List Proof) (at : ℕ) (a : Point) → Differ (at ∷ places_within s)
          → There (entailment_among (stm_entailments p t s at a) place number) → There (asked_from a.held (way_from at s proofs))
      asked_at (branch e yes_block no_block join) proofs at a d h =
          let s = branch e yes_block no_block join in
          let start = with_guard p t a e in
          let other = with_guard p t a (neg e) in
          let gs = guard_follows p t a e ∷ [] in
          let hs = state_follows (after_block p t yes_block start) join ++ state_follows (after_block p t no_block other) join in
          let all : length (questions p t a.held s) ≡ suc (length hs) = as_many p t s a in
          let first = option_map (with_steps_in_front (yes at e ∷ [])) (way_to yes_block place) in
          let second = option_map (with_steps_in_front (no at e ∷ [])) (way_to no_block place) in
          in_four (There (asked_from a.held (way_from at s proofs))) (placed_from at 1 gs) (block_entailments p t yes_block start)
          (block_entailments p t no_block other) (placed_from at (suc (length gs)) hs) h
          (λ k. own_asked s proofs at a 1 1 (of_placed at 1 gs k) (omega arith) (omega (arith, all)))
          (λ k. let stands = stands_in yes_block start k in
          further_in at s proofs a.held
          (λ is. d.0 (in_left at (places yes_block) (places no_block) (subst (λ z. In z (places yes_block)) (sym is) stands)))
          (first_asked a.held first second
          (one_step a.held (yes at e) (way_to yes_block place) (asked_in yes_block start (differ_left (places yes_block) (places no_block) d.1) k))))
          (λ k. let stands = stands_in no_block other k in
          further_in at s proofs a.held
          (λ is. d.0 (in_right at (places yes_block) (places no_block) (subst (λ z. In z (places no_block)) (sym is) stands)))
          (second_asked a.held first second
          (ap (λ o. option_map (with_steps_in_front (yes at e ∷ [])) o) (no_way yes_block (apart place (places yes_block) (places no_block) d.1 stands)))
          (one_step a.held (no at e) (way_to no_block place) (asked_in no_block other (differ_right (places yes_block) (places no_block) d.1) k))))
          (λ k. own_asked s proofs at a 2 (length hs) (of_placed at 2 hs k) (omega arith) (omega (arith, all)))
      asked_at (loop e inv b) proofs at a d h =
          let s = loop e inv b in
          let start = with_guard p t (meet p t a inv) e in
          let before = state_follows a inv in
          let guard = guard_follows p t (meet p t a inv) e in
          let gs = before ++ guard ∷ [] in
          let hs = state_follows (after_block p t b start) inv in
          let some : length gs ≡ length before + 1 = length-append before (guard ∷ []) in
          let all : length (questions p t a.held s) ≡ length before + suc (length hs) = as_many p t s a ∙ length-append before (guard ∷ hs) in
          in_three (There (asked_from a.held (way_from at s proofs))) (placed_from at 1 gs) (block_entailments p t b start) (placed_from at (suc (length gs)) hs) h
          (λ k. own_asked s proofs at a 1 (length gs) (of_placed at 1 gs k) (omega arith) (omega (arith, all, some)))
          (λ k. let stands = stands_in b start k in
          further_in at s proofs a.held (λ is. d.0 (subst (λ z. In z (places b)) (sym is) stands))
          (two_steps a.held (head at inv) (yes at e) (way_to b place) (asked_in b start d.1 k)))
          (λ k. own_asked s proofs at a (suc (length gs)) (length hs) (of_placed at (suc (length gs)) hs k) (omega arith) (omega (arith, all, some)))
      asked_at s proofs at a d h =
          let gs = own_entailments p t s a in own_asked s proofs at a 1 (length gs) (of_placed at 1 gs h) (omega arith) (omega (arith, as_many p t s a))

      asked_in : (b : Block) (a : Point) → Differ (places b) → There (entailment_among (block_entailments p t b a) place number) → There (asked_from a.held (way_to b place))
      asked_in done a d h = absurd h
      asked_in (more at s proofs rest) a d h =
          let first = way_from at s proofs in
          let second = option_map (with_steps_in_front (passed at s ∷ [])) (way_to rest place) in
          by_either (There (asked_from a.held (option_or first second))) (in_one (stm_entailments p t s at a) (block_entailments p t rest (after_stm p t s a)) h)
          (λ k. first_asked a.held first second (asked_at s proofs at a (differ_left (at ∷ places_within s) (places rest) d) k))
          (λ k. let stands = stands_in rest (after_stm p t s a) k in
          second_asked a.held first second
          (no_way_from at s proofs
          (λ is. d.0 (in_right at (places_within s) (places rest) (subst (λ z. In z (places rest)) (sym is) stands)))
          (no_way_within at s (apart place (places_within s) (places rest) d.1 stands)))
          (one_step a.held (passed at s) (way_to rest place)
          (subst (λ held. There (asked_from held (way_to rest place))) (sym (after_held p t s a))
          (asked_in rest (after_stm p t s a) (differ_right (at ∷ places_within s) (places rest) d) k))))

    of_way : (o : Option Way) → There (asked_from (no_locks p) o) → There (asked_of_way p t o number)
    of_way None h = h
    of_way (Some w) h = h

  carried : (b : Bool) (g : PlacedEntailment) (first second : Option PlacedEntailment) → (There first → There second)
      → There (if b then Some g else first) → There (if b then Some g else second)
  carried true g first second rest h = tt
  carried false g first second rest h = rest h

  of_taken : (k : ℕ) (gs : List PlacedEntailment) → There (entailment_among (take k gs) place number) → There (entailment_among gs place number)
  of_taken zero gs h = absurd h
  of_taken (suc k) [] h = absurd h
  of_taken (suc k) (g ∷ gs) h =
      carried (g.place == place && g.number == number) g (entailment_among (take k gs) place number) (entailment_among gs place number) (of_taken k gs) h

is_there : {A : Type 0} (o : Option A) → IsSome o → There o
is_there None h = absurd (true≢false (sym h))
is_there (Some x) h = tt

some_there : {A : Type 0} (o : Option A) → There o → IsSome o
some_there None h = absurd h
some_there (Some x) h = refl

pub each_is_asked : (q : Program) (t place number : ℕ) → IsWellFormed q → t < length q.threads → IsSome (entailment_among (thread_entailments q t) place number)
    → IsSome (asked q t place number)
each_is_asked q t place number formed inside h =
    let p = plain q in
    let body = (numbered q t).body in
    let known = of_taken place number (entailment_count (reached (thread_obligations q t))) (all_entailments q t) (is_there (entailment_among (thread_entailments q t) place number) h) in
    some_there (asked q t place number)
    (of_way place number p t (way_to body place)
    (asked_in place number p t body (start p t) (differ (places body) (formed.bodies t no_thread inside).places_differ) known))
