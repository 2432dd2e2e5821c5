-- The hypotheses of an entailment are those of the point at its site, and its goal is that of the question there.
use Rattle.std.proofs.Common.{◌≡◌, ◌⊎◌, ℕ, zero, suc, ◌+◌, ◌<◌, ◌==◌, ◌&&◌, List, [], ◌∷◌, ◌++◌, length, Bool, true, false, refl, sym, ap, subst, take, ◌∙◌, inl, inr, arith, append_assoc, append-nil, Option, Some, None, option_map, if◌then◌else◌}
use Rattle.std.specs.Prelude.{slice_get, unwrap_or}
use Rattle.std.specs.Option.{option_or}
use Rattle.std.specs.List.{AllZip}
use Rattle.std.proofs.lemmas.Bool.{and_parts, eqb-true, eq-eqb}
use Rattle.cov_expr.specs.Term.{Term, neg}
use Rattle.cov_ast.specs.Plain.{Plain, plain}
use Rattle.cov_ast.specs.Syntax.{State, Stm, branch, loop, Block, done, more, Proof, Program}
use Rattle.cov_ast.specs.WellFormed.{IsWellFormed, places, places_within}
use Rattle.mode_compat.specs.Compatible.{no_thread, numbered}
use Rattle.statement_paths.specs.Paths.{passed, yes, no, head, Way, here, with_steps_in_front, way_to, way_within}
use Rattle.typing_law.specs.Blocks.{after_stm, after_block}
use Rattle.typing_law.specs.Counts.{entailment_count}
use Rattle.typing_law.specs.Entailments.{Entailment, guard_follows, state_follows}
use Rattle.typing_law.specs.ThreadEntailments.{PlacedEntailment, placed_from, stm_entailments, block_entailments, entailment_among, all_entailments, reached, thread_entailments}
use Rattle.typing_law.specs.ThreadObligations.{thread_obligations}
use Rattle.point_law.specs.After.{meet, start, with_guard}
use Rattle.point_law.specs.Point.{Point}
use Rattle.cov_ast.specs.LocksAlong.{no_locks}
use Rattle.statement_paths.specs.LocksHeld.{held_along}
use Rattle.entail_origins.specs.OwnEntailments.{own_entailments}
use Rattle.entail_origins.specs.Questions.{asked_among, asked_of_way, questions}
use Rattle.entail_origins.specs.declared.kinds.Asked.{Asked}
use Rattle.entail_origins.proofs.QuestionsInStep.{IsAsked, OfPoint, in_step}
use Rattle.entail_origins.proofs.EachAsked.{Differ, In, There, apart, differ, differ_left, differ_right, in_left, in_right, no_way, no_way_from, no_way_within, stands_in, way_from}
use Rattle.statement_paths.proofs.HeldAtPoints.{after_held}
use Rattle.typing_points.specs.Points.{after_steps, point_after_steps}
use Rattle.entail_refused.proofs.SitePoints.{to_the_point}
use Rattle.entail_refused.specs.SiteHypotheses.{IsOfSite}
use Rattle.entail_refused.specs.Sites.{Site, site_at, site_of_way, steps_to_point}

-- Two lists, place by place --------------------------------------------------------------------------------------

same_item : {B : Type 0} (z y : B) → Some z ≡ Some y → z ≡ y
same_item z y k = ap (λ o. unwrap_or o z) k

item_first : {X : Type 0} (xs ys : List X) (i : ℕ) (x : X) → slice_get xs i ≡ Some x → slice_get (xs ++ ys) i ≡ Some x
item_first {X = X} [] ys i x h = let c : ◌≡◌ {A = Option X} None (Some x) = h in cc
item_first (z ∷ xs) ys zero x h = h
item_first (z ∷ xs) ys (suc i) x h = item_first xs ys i x h

item_later : {X : Type 0} (xs ys : List X) (i j : ℕ) (x : X) → j ≡ length xs + i → slice_get ys i ≡ Some x → slice_get (xs ++ ys) j ≡ Some x
item_later [] ys i j x e h = let same : j ≡ i = omega (arith, e) in ap (slice_get ys) same ∙ h
item_later (z ∷ xs) ys i zero x e h = absurd (omega (arith, e))
item_later (z ∷ xs) ys i (suc j) x e h = item_later xs ys i j x (omega (arith, e)) h

module _ {A B : Type 0} (R : A → B → Type 0) where
  -- what stands at a place of the first list
  abbrev Beside : (xs : List A) → ℕ → B → Type 0
  Beside xs i y = (x : A) × (slice_get xs i ≡ Some x) × R x y

  beside : (xs : List A) (ys : List B) (i : ℕ) (y : B) → AllZip R xs ys → slice_get ys i ≡ Some y → Beside xs i y
  beside [] [] i y h k = let c : ◌≡◌ {A = Option B} None (Some y) = k in cc
  beside [] (z ∷ ys) i y h k = absurd h
  beside (x ∷ xs) [] i y h k = absurd h
  beside (x ∷ xs) (z ∷ ys) zero y h k = (x, refl, subst (R x) (same_item z y k) h.0)
  beside (x ∷ xs) (z ∷ ys) (suc i) y h k = beside xs ys i y h.1 k

-- By place and number ----------------------------------------------------------------------------------------------

module _ (place number : ℕ) where
  abbrev Found : List PlacedEntailment → PlacedEntailment → Type 0
  Found gs g = entailment_among gs place number ≡ Some g

  is_there : (gs : List PlacedEntailment) (g : PlacedEntailment) → Found gs g → There (entailment_among gs place number)
  is_there gs g h = subst (λ o. There o) (sym h) tt

  in_one : (gs hs : List PlacedEntailment) (g : PlacedEntailment) → Found (gs ++ hs) g → Found gs g ⊎ Found hs g
  in_one [] hs g h = inr h
  in_one (k ∷ gs) hs g h = by_case (in_one gs hs g) (k.place == place && k.number == number) h
    where
      by_case : (Found (gs ++ hs) g → Found gs g ⊎ Found hs g) → (b : Bool) → (if b then Some k else entailment_among (gs ++ hs) place number) ≡ Some g
          → ((if b then Some k else entailment_among gs place number) ≡ Some g) ⊎ Found hs g
      by_case rest true m = inl m
      by_case rest false m = rest m

  -- where it stands in a list that is numbered from n on
  abbrev Stands : (at n : ℕ) → List Entailment → PlacedEntailment → Type 0
  Stands at n gs g = (at ≡ place) × ((i : ℕ) × (number ≡ n + i) × (slice_get gs i ≡ Some g.entailment))

  stands : (at n : ℕ) (gs : List Entailment) (g : PlacedEntailment) → Found (placed_from at n gs) g → Stands at n gs g
  stands at n [] g h = let c : ◌≡◌ {A = Option PlacedEntailment} None (Some g) = h in cc
  stands at n (e ∷ gs) g h = by_case (stands at (suc n) gs g) (at == place && n == number) refl h
    where
      by_case : (Found (placed_from at (suc n) gs) g → Stands at (suc n) gs g) → (b : Bool) → (at == place && n == number) ≡ b
          → (if b then Some (record { place = at; number = n; entailment = e }) else entailment_among (placed_from at (suc n) gs) place number) ≡ Some g
          → Stands at n (e ∷ gs) g
      by_case rest true is m =
          let parts = and_parts (at == place) (n == number) is in
          let same : n ≡ number = eqb-true n number parts.1 in
          let this = same_item (record { place = at; number = n; entailment = e }) g m in
          (eqb-true at place parts.0, (0, omega (arith, same), ap (λ k. Some k.entailment) this))
      by_case rest false is m =
          let later = rest m in
          (later.0, (suc later.1.0, omega (arith, later.1.1), later.1.2))

  of_taken : (k : ℕ) (gs : List PlacedEntailment) (g : PlacedEntailment) → Found (take k gs) g → Found gs g
  of_taken zero gs g h = let c : ◌≡◌ {A = Option PlacedEntailment} None (Some g) = h in cc
  of_taken (suc k) [] g h = let c : ◌≡◌ {A = Option PlacedEntailment} None (Some g) = h in cc
  of_taken (suc k) (e ∷ gs) g h = by_case (of_taken k gs g) (e.place == place && e.number == number) h
    where
      by_case : (Found (take k gs) g → Found gs g) → (b : Bool) → (if b then Some e else entailment_among (take k gs) place number) ≡ Some g
          → (if b then Some e else entailment_among gs place number) ≡ Some g
      by_case rest true m = m
      by_case rest false m = rest m

  module _ (p : Plain) (t : ℕ) where
    -- of the statement at the end of a way from a point
    abbrev OfQuestion : Point → Way → PlacedEntailment → Option Asked → Type 0
    OfQuestion a w g None = ⊥
    OfQuestion a w g (Some k) = OfPoint p t w.stm (after_steps p t (w.steps ++ steps_to_point k.question place w.stm) a) k.question g.entailment

    abbrev OfWay : Point → Option Way → PlacedEntailment → Type 0
    OfWay a None g = ⊥
    OfWay a (Some w) g = OfQuestion a w g (asked_among (questions p t (held_along w.steps a.held) w.stm) number)

    first_way : (a : Point) (first second : Option Way) (g : PlacedEntailment) → OfWay a first g → OfWay a (option_or first second) g
    first_way a None second g h = absurd h
    first_way a (Some w) second g h = h

    second_way : (a : Point) (first second : Option Way) (g : PlacedEntailment) → first ≡ None → OfWay a second g → OfWay a (option_or first second) g
    second_way a first second g none h = subst (λ o. OfWay a (option_or o second) g) (sym none) h

    past_one : (a : Point) (at : ℕ) (s : Stm) (o : Option Way) (g : PlacedEntailment) → OfWay (after_stm p t s a) o g → OfWay a (option_map (with_steps_in_front (passed at s ∷ [])) o) g
    past_one a at s None g h = h
    past_one a at s (Some w) g h =
        subst (λ held. OfQuestion a (with_steps_in_front (passed at s ∷ []) w) g (asked_among (questions p t (held_along w.steps held) w.stm) number)) (sym (after_held p t s a)) h

    into_first : (a : Point) (at : ℕ) (e : Term) (o : Option Way) (g : PlacedEntailment) → OfWay (with_guard p t a e) o g → OfWay a (option_map (with_steps_in_front (yes at e ∷ [])) o) g
    into_first a at e None g h = h
    into_first a at e (Some w) g h = h

    into_second : (a : Point) (at : ℕ) (e : Term) (o : Option Way) (g : PlacedEntailment) → OfWay (with_guard p t a (neg e)) o g → OfWay a (option_map (with_steps_in_front (no at e ∷ [])) o) g
    into_second a at e None g h = h
    into_second a at e (Some w) g h = h

    into_loop : (a : Point) (at : ℕ) (e : Term) (inv : State) (o : Option Way) (g : PlacedEntailment) → OfWay (with_guard p t (meet p t a inv) e) o g
        → OfWay a (option_map (with_steps_in_front (head at inv ∷ yes at e ∷ [])) o) g
    into_loop a at e inv None g h = h
    into_loop a at e inv (Some w) g h = h

    -- One of a statement's own -------------------------------------------------------------------------------------

    abbrev Here : (at : ℕ) → Stm → List Proof → Point → PlacedEntailment → Type 0
    Here at s proofs a g = OfWay a (way_from place number p t at s proofs) g

    asked_of : (at : ℕ) (s : Stm) (proofs : List Proof) (a : Point) (g : PlacedEntailment) (i : ℕ) → number ≡ suc i
        → Beside (IsAsked p t s a) (questions p t a.held s) i g.entailment → OfQuestion a (here s proofs) g (asked_among (questions p t a.held s) number)
    asked_of at s proofs a g i is found =
        subst (λ n. OfQuestion a (here s proofs) g (asked_among (questions p t a.held s) n)) (sym is)
        (subst (λ o. OfQuestion a (here s proofs) g (option_map (λ x. record { question = x; of = length (questions p t a.held s) }) o)) (sym found.1)
        (subst (λ b. OfPoint p t s b found.0 g.entailment) (sym (to_the_point p t found.0 place s a)) found.2))

    own : (at : ℕ) (s : Stm) (proofs : List Proof) (a : Point) (g : PlacedEntailment) → at ≡ place → (i : ℕ) → number ≡ suc i
        → slice_get (own_entailments p t s a) i ≡ Some g.entailment → Here at s proofs a g
    own at s proofs a g is i numbered there =
        subst (λ b. OfWay a (if b then Some (here s proofs) else way_within at s place) g) (sym (eq-eqb at place is))
        (asked_of at s proofs a g i numbered (beside (IsAsked p t s a) (questions p t a.held s) (own_entailments p t s a) i g.entailment (in_step p t s a) there))

    -- of some of its own, with others in front and behind
    own_part : (at : ℕ) (s : Stm) (proofs : List Proof) (a : Point) (g : PlacedEntailment) (front gs back : List Entailment) (n : ℕ) → n ≡ suc (length front)
        → front ++ (gs ++ back) ≡ own_entailments p t s a → Found (placed_from at n gs) g → Here at s proofs a g
    own_part at s proofs a g front gs back n first all h =
        let k = stands at n gs g h in
        own at s proofs a g k.0 (length front + k.1.0) (omega (arith, k.1.1, first))
        (subst (λ es. slice_get es (length front + k.1.0) ≡ Some g.entailment) all
        (item_later front (gs ++ back) k.1.0 (length front + k.1.0) g.entailment refl (item_first gs back k.1.0 g.entailment k.1.2)))

    -- one in its blocks
    further_in : (at : ℕ) (s : Stm) (proofs : List Proof) (a : Point) (g : PlacedEntailment) → (at ≡ place → ⊥) → OfWay a (way_within at s place) g → Here at s proofs a g
    further_in at s proofs a g other h = by_case (at == place) refl
      where
        by_case : (b : Bool) → (at == place) ≡ b → OfWay a (if b then Some (here s proofs) else way_within at s place) g
        by_case true is = absurd (other (eqb-true at place is))
        by_case false is = h

    -- Each ---------------------------------------------------------------------------------------------------------

    by_either : {A B : Type 0} (C : Type 0) → A ⊎ B → (A → C) → (B → C) → C
    by_either C (inl h) f g = f h
    by_either C (inr h) f g = g h

    in_three : (C : Type 0) (xs ys zs : List PlacedEntailment) (g : PlacedEntailment) → Found (xs ++ (ys ++ zs)) g
        → (Found xs g → C) → (Found ys g → C) → (Found zs g → C) → C
    in_three C xs ys zs g h f k l = by_either C (in_one xs (ys ++ zs) g h) f (λ r. by_either C (in_one ys zs g r) k l)

    in_four : (C : Type 0) (xs ys zs ws : List PlacedEntailment) (g : PlacedEntailment) → Found (xs ++ (ys ++ (zs ++ ws))) g
        → (Found xs g → C) → (Found ys g → C) → (Found zs g → C) → (Found ws g → C) → C
    in_four C xs ys zs ws g h f k l m = by_either C (in_one xs (ys ++ (zs ++ ws)) g h) f (λ r. in_three C ys zs ws g r k l m)

    mutual
      sited_at : (s : Stm) (proofs : List Proof) (at : ℕ) (a : Point) (g : PlacedEntailment) → Differ (at ∷ places_within s) → Found (stm_entailments p t s at a) g → Here at s proofs a g
      sited_at (branch e yes_block no_block join) proofs at a g d h =
          let s = branch e yes_block no_block join in
          let start = with_guard p t a e in
          let other = with_guard p t a (neg e) in
          let gs = guard_follows p t a e ∷ [] in
          let hs = state_follows (after_block p t yes_block start) join ++ state_follows (after_block p t no_block other) join in
          let first = option_map (with_steps_in_front (yes at e ∷ [])) (way_to yes_block place) in
          let second = option_map (with_steps_in_front (no at e ∷ [])) (way_to no_block place) in
          in_four (Here at s proofs a g) (placed_from at 1 gs) (block_entailments p t yes_block start) (block_entailments p t no_block other) (placed_from at 2 hs) g h
          (λ k. own_part at s proofs a g [] gs hs 1 refl refl k)
          (λ k. let stand = stands_in place number p t yes_block start (is_there (block_entailments p t yes_block start) g k) in
          further_in at s proofs a g
          (λ is. d.0 (in_left at (places yes_block) (places no_block) (subst (λ z. In z (places yes_block)) (sym is) stand)))
          (first_way a first second g
          (into_first a at e (way_to yes_block place) g (sited_in yes_block start g (differ_left (places yes_block) (places no_block) d.1) k))))
          (λ k. let stand = stands_in place number p t no_block other (is_there (block_entailments p t no_block other) g k) in
          further_in at s proofs a g
          (λ is. d.0 (in_right at (places yes_block) (places no_block) (subst (λ z. In z (places no_block)) (sym is) stand)))
          (second_way a first second g
          (ap (λ o. option_map (with_steps_in_front (yes at e ∷ [])) o) (no_way place number p t yes_block (apart place (places yes_block) (places no_block) d.1 stand)))
          (into_second a at e (way_to no_block place) g (sited_in no_block other g (differ_right (places yes_block) (places no_block) d.1) k))))
          (λ k. own_part at s proofs a g gs hs [] 2 refl (ap (λ es. guard_follows p t a e ∷ es) (append-nil hs)) k)
      sited_at (loop e inv b) proofs at a g d h =
          let s = loop e inv b in
          let start = with_guard p t (meet p t a inv) e in
          let before = state_follows a inv in
          let guard = guard_follows p t (meet p t a inv) e in
          let gs = before ++ guard ∷ [] in
          let hs = state_follows (after_block p t b start) inv in
          in_three (Here at s proofs a g) (placed_from at 1 gs) (block_entailments p t b start) (placed_from at (suc (length gs)) hs) g h
          (λ k. own_part at s proofs a g [] gs hs 1 refl (append_assoc before (guard ∷ []) hs) k)
          (λ k. let stand = stands_in place number p t b start (is_there (block_entailments p t b start) g k) in
          further_in at s proofs a g (λ is. d.0 (subst (λ z. In z (places b)) (sym is) stand))
          (into_loop a at e inv (way_to b place) g (sited_in b start g d.1 k)))
          (λ k. own_part at s proofs a g gs hs [] (suc (length gs)) refl (ap (λ es. gs ++ es) (append-nil hs) ∙ append_assoc before (guard ∷ []) hs) k)
      sited_at s proofs at a g d h = let gs = own_entailments p t s a in own_part at s proofs a g [] gs [] 1 refl (append-nil gs) h

      sited_in : (b : Block) (a : Point) (g : PlacedEntailment) → Differ (places b) → Found (block_entailments p t b a) g → OfWay a (way_to b place) g
      sited_in done a g d h = let c : ◌≡◌ {A = Option PlacedEntailment} None (Some g) = h in cc
      sited_in (more at s proofs rest) a g d h =
          let first = way_from place number p t at s proofs in
          let second = option_map (with_steps_in_front (passed at s ∷ [])) (way_to rest place) in
          by_either (OfWay a (option_or first second) g) (in_one (stm_entailments p t s at a) (block_entailments p t rest (after_stm p t s a)) g h)
          (λ k. first_way a first second g (sited_at s proofs at a g (differ_left (at ∷ places_within s) (places rest) d) k))
          (λ k. let stand = stands_in place number p t rest (after_stm p t s a) (is_there (block_entailments p t rest (after_stm p t s a)) g k) in
          second_way a first second g
          (no_way_from place number p t at s proofs
          (λ is. d.0 (in_right at (places_within s) (places rest) (subst (λ z. In z (places rest)) (sym is) stand)))
          (no_way_within place number p t at s (apart place (places_within s) (places rest) d.1 stand)))
          (past_one a at s (way_to rest place) g (sited_in rest (after_stm p t s a) g (differ_right (at ∷ places_within s) (places rest) d) k)))

    -- The site -----------------------------------------------------------------------------------------------------

    abbrev HasSite : Option Way → Option Asked → PlacedEntailment → Type 0
    HasSite w k g = (site : Site) × (site_of_way place w k ≡ Some site) × OfPoint p t site.stm (point_after_steps p t site.steps) site.question g.entailment

    of_asked : (w : Way) (k : Option Asked) (g : PlacedEntailment) → OfQuestion (start p t) w g k → HasSite (Some w) k g
    of_asked w None g h = absurd h
    of_asked w (Some k) g h = (site_at w.steps k.question place w.stm, refl, h)

    of_way : (o : Option Way) (g : PlacedEntailment) → OfWay (start p t) o g → HasSite o (asked_of_way p t o number) g
    of_way None g h = absurd h
    of_way (Some w) g h = of_asked w (asked_among (questions p t (held_along w.steps (no_locks p)) w.stm) number) g h

pub of_site : (s : Program) (t place number : ℕ) → IsWellFormed s → t < length s.threads → (g : PlacedEntailment)
    → entailment_among (thread_entailments s t) place number ≡ Some g → IsOfSite s t place number g
of_site s t place number formed inside g h =
    let p = plain s in
    let body = (numbered s t).body in
    let known = of_taken place number (entailment_count (reached (thread_obligations s t))) (all_entailments s t) g h in
    let found = of_way place number p t (way_to body place) g
    (sited_in place number p t body (start p t) g (differ (places body) (formed.bodies t no_thread inside).places_differ) known) in
    record { site = found.0; there = found.1; known = found.2.0; goal = found.2.1 }
