-- A statement that is warned of as never reached stands at a place that no run of its thread comes to, where the places of the thread's statements differ.
use Rattle.std.proofs.Common.{◌≡◌, ◌≢◌, ℕ, ◌<◌, ◌≤◌, ◌==◌, ◌&&◌, ◌||◌, List, [], ◌∷◌, ◌++◌, length, get_or, Bool, true, false, not, Option, Some, None, refl, sym, ap, subst, ◌∙◌, arith, ◌⊎◌, ⊎_elim, inl, inr, Contains}
use Rattle.std.specs.List.{list_any}
use Rattle.std.proofs.Math.ListN.{get_or-map}
use Rattle.std.proofs.lemmas.Bool.{and_parts, or_parts, not-true, eqb-true, eq-eqb, cases_lt}
use Rattle.std.proofs.lemmas.List.{get_or_past}
use Rattle.std.proofs.lemmas.List.Elements.{Contains-append_cases, Contains-push_cases}
use Rattle.std.proofs.lemmas.List.Folds.{list_any-append}
use Rattle.cov_ast.specs.Declarations.{no_modes, no_thread, thread_at}
use Rattle.cov_ast.specs.Plain.{Cmd, Cmds, plain_stm, plain_block, plain_thread, plain}
use Rattle.cov_ast.specs.Syntax.{Stm, Block, done, more, Thread, Program}
use Rattle.cov_ast.specs.Syntax as s
use Rattle.cov_ast.specs.WellFormed.{IsWellFormed, are_distinct, places, places_within}
use Rattle.flow_model.specs.Source.{items_of, items_then, first_place, begin, after}
use Rattle.explain.specs.Inside.StatementWalks.{left_of, stm_front, cuts_off, stm_unreached, block_unreached}
use Rattle.explain.specs.NeverReached.{is_closed_true, of_front, of_thread}
use Rattle.explain.specs.Unused.{is_closed_false, warned}
use Rattle.explain.specs.declared.warning.Warning.{Warning}
use Rattle.explain.specs.declared.warning.Cause.TheVariants as c
use Rattle.explain.proofs.Missed.{unless, Misses, MissesAll, all_cut, thread_misses}
use Rattle.explain.proofs.UnreachedLaws.{stm_is}

-- Places that differ -------------------------------------------------------------------------------------------

abbrev among : List ℕ → ℕ → Bool
among ps x = list_any (◌==◌ x) ps

abbrev differ : List ℕ → Bool
differ ps = are_distinct (◌==◌) ps

-- the first of them is none of the others
first_differs : (x at : ℕ) (ps : List ℕ) → differ (at ∷ ps) ≡ true → among ps x ≡ true → x ≢ at
first_differs x at ps h k = λ e.
    let parts = and_parts (not (among ps at)) (differ ps) h in
    let never : true ≡ false = sym k ∙ ap (among ps) e ∙ not-true (among ps at) parts.0 in
    cc

-- of two parts each has places that differ, and none is in both
one_more : (x p : ℕ) (ps qs : List ℕ) → among (ps ++ qs) p ≡ false
    → (differ ps ≡ true) × ((differ qs ≡ true) × (among ps x ≡ true → among qs x ≡ false))
    → (differ (p ∷ ps) ≡ true) × ((differ qs ≡ true) × (among (p ∷ ps) x ≡ true → among qs x ≡ false))
one_more x p ps qs nowhere rest = (own, (rest.1.0, other (x == p) refl))
  where
    elsewhere : (among ps p ≡ false) × (among qs p ≡ false)
    elsewhere = or_parts (among ps p) (among qs p) (sym (list_any-append (◌==◌ p) ps qs) ∙ nowhere)

    own : differ (p ∷ ps) ≡ true
    own = subst (λ b. (not b && differ ps) ≡ true) (sym elsewhere.0) rest.0

    other : (b : Bool) → (x == p) ≡ b → (b || among ps x) ≡ true → among qs x ≡ false
    other true e k = subst (λ y. among qs y ≡ false) (sym (eqb-true x p e)) elsewhere.1
    other false e k = rest.1.1 k

two_parts : (x : ℕ) (ps qs : List ℕ) → differ (ps ++ qs) ≡ true
    → (differ ps ≡ true) × ((differ qs ≡ true) × (among ps x ≡ true → among qs x ≡ false))
two_parts x [] qs h = (refl, (h, λ e. let never : false ≡ true = e in cc))
two_parts x (p ∷ ps) qs h =
    let parts = and_parts (not (among (ps ++ qs) p)) (differ (ps ++ qs)) h in
    one_more x p ps qs (not-true (among (ps ++ qs) p) parts.0) (two_parts x ps qs parts.1)

in_second : (a b : Bool) → (a ≡ true → b ≡ false) → b ≡ true → a ≡ false
in_second true b h k = let never : false ≡ true = sym (h refl) ∙ k in cc
in_second false b h k = refl

or_second : (a b : Bool) → b ≡ true → (a || b) ≡ true
or_second true b h = refl
or_second false b h = h

or_first : (a b : Bool) → a ≡ true → (a || b) ≡ true
or_first true b h = refl
or_first false b h = let never : false ≡ true = h in cc

module _ (x : ℕ) where
  abbrev here : Warning
  here = warned x c.NeverReached

  empty : Contains [] here → ⊥
  empty h = let inside = h.1 in omega arith

  among_append : (ps qs : List ℕ) → (among ps x || among qs x) ≡ true → among (ps ++ qs) x ≡ true
  among_append ps qs h = list_any-append (◌==◌ x) ps qs ∙ h

  same_place : (x == x) ≡ true
  same_place = eq-eqb x x refl

  not_here : (at : ℕ) → (x == at) ≡ false → x ≢ at
  not_here at h = λ e. let never : true ≡ false = sym same_place ∙ ap (λ y. x == y) e ∙ h in cc

  -- Statements without annotations, in front of others -------------------------------------------------------------

  abbrev IsMissed : Option Cmd → Type 0
  IsMissed None = Unit {0}
  IsMissed (Some c) = Misses x c

  abbrev InBlocks : Stm → Type 0
  InBlocks q = IsMissed (left_of q)

  put_front : (q : Stm) (at : ℕ) (u : Bool) (r : Cmds) → x ≢ at → InBlocks q → MissesAll x (cuts_off u q) r → MissesAll x u (plain_stm q at r)
  put_front (s.note j) at u r d m h = h
  put_front _ at u r d m h = unless u (d, (m, h))

  -- What isn't among the places is missed ----------------------------------------------------------------------------

  mutual
    absent_within : (q : Stm) → among (places_within q) x ≡ false → InBlocks q
    absent_within (s.branch e a b join) h =
        let parts = or_parts (among (places a) x) (among (places b) x) (sym (list_any-append (◌==◌ x) (places a) (places b)) ∙ h) in
        (absent a (is_closed_false e) parts.0, absent b (is_closed_true e) parts.1)
    absent_within (s.loop e inv b) h = absent b (is_closed_false e) h
    absent_within _ h = tt

    absent : (b : Block) (u : Bool) → among (places b) x ≡ false → MissesAll x u (plain_block b)
    absent done u h = tt
    absent (more at q proofs b) u h =
        let first = or_parts (x == at) (among (places_within q ++ places b) x) h in
        let parts = or_parts (among (places_within q) x) (among (places b) x) (sym (list_any-append (◌==◌ x) (places_within q) (places b)) ∙ first.1) in
        put_front q at u (plain_block b) (not_here at first.0) (absent_within q parts.0) (absent b (cuts_off u q) parts.1)

  -- What is warned of is among the places ----------------------------------------------------------------------------

  front_at : (u : Bool) (at : ℕ) → Contains (of_front u at) here → (x == at) ≡ true
  front_at false at h = absurd (empty h)
  front_at true at h = by (Contains-push_cases [] (warned at c.NeverReached) here h)
    where
      by : Contains [] here ⊎ (warned at c.NeverReached ≡ here) → (x == at) ≡ true
      by (inl k) = absurd (empty k)
      by (inr e) = subst (λ y. (x == y) ≡ true) (sym (ap (λ w. w.place) e)) same_place

  stm_front_at : (q : Stm) (u : Bool) (at : ℕ) → Contains (stm_front u q at) here → (x == at) ≡ true
  stm_front_at (s.note j) u at h = absurd (empty h)
  stm_front_at _ u at h = front_at u at h

  front_none : (q : Stm) (at : ℕ) → stm_front false q at ≡ []
  front_none (s.note j) at = refl
  front_none _ at = refl

  mutual
    found_within : (q : Stm) → Contains (stm_unreached q) here → among (places_within q) x ≡ true
    found_within (s.branch e a b join) h =
        among_append (places a) (places b)
        (⊎_elim (λ k. or_first (among (places a) x) (among (places b) x) (found a (is_closed_false e) k))
        (λ k. or_second (among (places a) x) (among (places b) x) (found b (is_closed_true e) k))
        (Contains-append_cases (block_unreached (is_closed_false e) a) (block_unreached (is_closed_true e) b) here h))
    found_within (s.loop e inv b) h = found b (is_closed_false e) h
    found_within _ h = absurd (empty h)

    found : (b : Block) (u : Bool) → Contains (block_unreached u b) here → among (places b) x ≡ true
    found done u h = absurd (empty h)
    found (more at q proofs b) u h =
        let parts : Contains (stm_front u q at ++ stm_unreached q ++ block_unreached (cuts_off u q) b) here =
        subst (λ ws. Contains ws here) (stm_is q at u (plain_block b)) h in
        ⊎_elim
        (λ k. ⊎_elim (λ f. or_first (x == at) (among (places_within q ++ places b) x) (stm_front_at q u at f))
        (λ f. or_second (x == at) (among (places_within q ++ places b) x)
        (among_append (places_within q) (places b) (or_first (among (places_within q) x) (among (places b) x) (found_within q f))))
        (Contains-append_cases (stm_front u q at) (stm_unreached q) here k))
        (λ k. or_second (x == at) (among (places_within q ++ places b) x)
        (among_append (places_within q) (places b) (or_second (among (places_within q) x) (among (places b) x) (found b (cuts_off u q) k))))
        (Contains-append_cases (stm_front u q at ++ stm_unreached q) (block_unreached (cuts_off u q) b) here parts)

  -- What is warned of is missed ---------------------------------------------------------------------------------------

  mutual
    cut_within : (q : Stm) → differ (places_within q) ≡ true → Contains (stm_unreached q) here → InBlocks q
    cut_within (s.branch e a b join) d h =
        let parts = two_parts x (places a) (places b) d in
        ⊎_elim (λ k. (cut a (is_closed_false e) parts.0 k, absent b (is_closed_true e) (parts.1.1 (found a (is_closed_false e) k))))
        (λ k. (
          absent a (is_closed_false e) (in_second (among (places a) x) (among (places b) x) parts.1.1 (found b (is_closed_true e) k)),
          cut b (is_closed_true e) parts.1.0 k,
        ))
        (Contains-append_cases (block_unreached (is_closed_false e) a) (block_unreached (is_closed_true e) b) here h)
    cut_within (s.loop e inv b) d h = cut b (is_closed_false e) d h
    cut_within _ d h = tt

    cut : (b : Block) (u : Bool) → differ (places b) ≡ true → Contains (block_unreached u b) here → MissesAll x u (plain_block b)
    cut done u d h = tt
    cut (more at q proofs b) true d h = all_cut x (plain_stm q at (plain_block b))
    cut (more at q proofs b) false d h =
        let later = and_parts (not (among (places_within q ++ places b) at)) (differ (places_within q ++ places b)) d in
        let parts = two_parts x (places_within q) (places b) later.1 in
        let own : Contains (stm_unreached q ++ block_unreached (cuts_off false q) b) here =
        subst (λ ws. Contains (ws ++ stm_unreached q ++ block_unreached (cuts_off false q) b) here) (front_none q at)
        (subst (λ ws. Contains ws here) (stm_is q at false (plain_block b)) h) in
        ⊎_elim (λ k. let place = found_within q k in
        put_front q at false (plain_block b)
        (first_differs x at (places_within q ++ places b) d (among_append (places_within q) (places b) (or_first (among (places_within q) x) (among (places b) x) place)))
        (cut_within q parts.0 k) (absent b (cuts_off false q) (parts.1.1 place)))
        (λ k. let place = found b (cuts_off false q) k in
        put_front q at false (plain_block b)
        (first_differs x at (places_within q ++ places b) d (among_append (places_within q) (places b) (or_second (among (places_within q) x) (among (places b) x) place)))
        (absent_within q (in_second (among (places_within q) x) (among (places b) x) parts.1.1 place)) (cut b (cuts_off false q) parts.1.0 k))
        (Contains-append_cases (stm_unreached q) (block_unreached (cuts_off false q) b) here own)

-- Threads ------------------------------------------------------------------------------------------------------

abbrev outside : Thread
outside = record { name = []; at = 0; modes = no_modes; body = done; end = 0 }

differ_at : (p : Program) (t : ℕ) → IsWellFormed p → differ (places (get_or p.threads t outside).body) ≡ true
differ_at p t fine = by (cases_lt t (length p.threads))
  where
    by : (t < length p.threads) ⊎ (length p.threads ≤ t) → differ (places (get_or p.threads t outside).body) ≡ true
    by (inl inside) = (fine.bodies t outside inside).places_differ
    by (inr past) = ap (λ u. differ (places u.body)) (get_or_past p.threads t outside past)

thread_is : (p : Program) (t : ℕ) → thread_at (plain p) t ≡ plain_thread (get_or p.threads t outside)
thread_is p t = get_or-map plain_thread p.threads t outside

pub never_stands : (p : Program) → IsWellFormed p → (t place : ℕ) → Contains (of_thread (thread_at (plain p) t)) (warned place c.NeverReached)
    → (m schedule : List ℕ) → first_place (items_of (after (plain p) m schedule) t) ≢ Some place
never_stands p fine t place h m schedule =
    thread_misses place (plain_block body) (begin (plain p) m) t schedule missed at_start
  where
    body : Block
    body = (get_or p.threads t outside).body

    told : Contains (block_unreached false body) (warned place c.NeverReached)
    told = subst (λ ws. Contains ws (warned place c.NeverReached)) (ap of_thread (thread_is p t)) h

    missed : MissesAll place false (plain_block body)
    missed = cut place body false (differ_at p t fine) told

    at_start : items_of (begin (plain p) m) t ≡ items_then (plain_block body) []
    at_start = get_or-map (λ u. items_then u.body []) (plain p).threads t no_thread ∙ ap (λ u. items_then u.body []) (thread_is p t)
