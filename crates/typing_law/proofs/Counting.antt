-- How many entailments the obligations of a statement have, and that they ask for its entailments, in their order.
use Rattle.std.proofs.Common.{◌≡◌, ℕ, suc, ◌+◌, List, [], ◌∷◌, ◌++◌, length, map, Bool, true, false, cond, if◌then◌else◌, refl, sym, ap, subst, ◌∙◌, arith}
use Rattle.std.proofs.lemmas.List.{append-nil, length-append}
use Rattle.std.proofs.lemmas.List.Sums.{sum_by-append}
use Rattle.cov_expr.specs.Term.{Term, neg}
use Rattle.cov_expr.specs.Trees.{vars}
use Rattle.cov_ast.specs.Obligations.{Obligation}
use Rattle.cov_ast.specs.Plain.{Plain}
use Rattle.cov_ast.specs.Syntax.{State, Proof, Stm, branch, loop, Block, done, more}
use Rattle.cov_ast.specs.declared.refusal.Rule.TheVariants.{V5, V9}
use Rattle.cov_ast.specs.declared.refusal.Detail.TheVariants.{Number}
use Rattle.mode_state.specs.Sets.{is_stable}
use Rattle.point_law.specs.Point.{Point, is_tracked}
use Rattle.point_law.specs.After.{with_guard, meet}
use Rattle.typing_law.specs.Counts.{entailment_count, is_entailment}
use Rattle.typing_law.specs.Blocks.{after_stm, after_block}
use Rattle.typing_law.specs.Entailments.{Entailment, is_proved, guard_follows, state_follows}
use Rattle.typing_law.specs.ThreadEntailments.{PlacedEntailment, block_entailments, placed_from, placed_proofs, proofs_within, stm_entailments}
use Rattle.typing_law.specs.ThreadObligations.{flat, obligation, one_unstable, narrow, of_var, reads, over_stable, type_obligations, state_obligations, guard_obligations, proved, numbers, stm_parts, block_obligations}

-- Lists --------------------------------------------------------------------------------------------------------

pub count_append : (a b : List Obligation) → entailment_count (a ++ b) ≡ entailment_count a + entailment_count b
count_append a b = sum_by-append _ a b

pub count_cons : (e : Obligation) (es : List Obligation) → entailment_count (e ∷ es) ≡ entailment_count (e ∷ []) + entailment_count es
count_cons e es = count_append (e ∷ []) es

-- the counts of parts, together
abbrev part_counts : List (List Obligation) → ℕ
part_counts [] = 0
part_counts (es ∷ ess) = entailment_count es + part_counts ess

count_flat : (ess : List (List Obligation)) → entailment_count (flat ess) ≡ part_counts ess
count_flat [] = refl
count_flat (es ∷ ess) = count_append es (flat ess) ∙ ap (λ n. entailment_count es + n) (count_flat ess)

-- obligations of which none is an entailment
none_mapped : {X : Type 0} (f : X → Obligation) (xs : List X) → ((x : X) → is_entailment (f x).refusal.rule ≡ false) → entailment_count (map f xs) ≡ 0
none_mapped f [] h = refl
none_mapped f (x ∷ xs) h =
    let here : entailment_count (f x ∷ []) ≡ 0 = ap (λ s. 0 + cond s 1 0) (h x) in
    omega (arith, count_cons (f x) (map f xs), here, none_mapped f xs h)

-- Parts --------------------------------------------------------------------------------------------------------

module _ (p : Plain) (t at : ℕ) where
  pub count_proved : (proofs : List Proof) (n : ℕ) (gs : List Entailment) → entailment_count (proved p t at proofs n gs) ≡ length gs
  count_proved proofs n [] = refl
  count_proved proofs n (g ∷ gs) =
      omega (arith, count_cons (obligation p t at V9 (Number n) (is_proved proofs n g)) (proved p t at proofs (suc n) gs), count_proved proofs (suc n) gs)

  pub count_numbers : (count : ℕ) (proofs : List Proof) → entailment_count (numbers p t at count proofs) ≡ 0
  count_numbers count proofs = none_mapped _ proofs (λ q. refl)

  pub count_reads : (held : List Bool) (e : Term) → entailment_count (reads p t at held e) ≡ 0
  count_reads held e = none_mapped _ (vars e) (λ x. refl)

  pub count_types : (test : ℕ → Bool) (held : List Bool) (before : List ℕ) (types : List (ℕ × Term))
      → entailment_count (type_obligations p t at test held before types) ≡ 0
  count_types test held before [] = refl
  count_types test held before (r ∷ rs) = count_types test held (r.0 ∷ before) rs

  pub count_state : (held : List Bool) (j : State) → entailment_count (state_obligations p t at held j) ≡ 0
  count_state held j =
      omega (
        arith,
        count_append (map (over_stable p t at held) j.preds) (type_obligations p t at (is_tracked p t held) held [] j.types),
        none_mapped (over_stable p t at held) j.preds (λ e. refl),
        count_types (is_tracked p t held) held [] j.types,
      )

  pub count_guard : (held : List Bool) (e : Term) → entailment_count (guard_obligations p t at held e) ≡ 0
  count_guard held e = omega (
    arith,
    count_append (reads p t at held e ++ one_unstable p t at held e) (narrow p t at e),
    count_append (reads p t at held e) (one_unstable p t at held e),
    count_reads held e,
  )

  pub count_stable : (held : List Bool) (control : Bool) (e : Term)
      → entailment_count (if control then map (of_var p t at V5 (is_stable p t held)) (vars e) else []) ≡ 0
  count_stable held true e = none_mapped _ (vars e) (λ x. refl)
  count_stable held false e = refl

-- Along statements ----------------------------------------------------------------------------------------------

-- something of the proofs at each of these places
abbrev pub AllGiven : (ℕ → List Proof → Type 0) → List (ℕ × List Proof) → Type 0
AllGiven Given [] = Unit {0}
AllGiven Given (q ∷ qs) = Given q.0 q.1 × AllGiven Given qs

given_first : (Given : ℕ → List Proof → Type 0) (qs rs : List (ℕ × List Proof)) → AllGiven Given (qs ++ rs) → AllGiven Given qs
given_first Given [] rs h = tt
given_first Given (q ∷ qs) rs h = (h.0, given_first Given qs rs h.1)

given_rest : (Given : ℕ → List Proof → Type 0) (qs rs : List (ℕ × List Proof)) → AllGiven Given (qs ++ rs) → AllGiven Given rs
given_rest Given [] rs h = h
given_rest Given (q ∷ qs) rs h = given_rest Given qs rs h.1

all_given : (Given : ℕ → List Proof → Type 0) → ((at : ℕ) (proofs : List Proof) → Given at proofs) → (qs : List (ℕ × List Proof)) → AllGiven Given qs
all_given Given h [] = tt
all_given Given h (q ∷ qs) = (h q.0 q.1, all_given Given h qs)

-- What holds between obligations and entailments where none is asked, of lists one after another, and of V9 where something is known of the proofs.
pub record Alongside (p : Plain) (t : ℕ) : Type 1 where
  pub Holds : List Obligation → List PlacedEntailment → Type 0
  pub Given : ℕ → List Proof → Type 0
  pub none : (es : List Obligation) → entailment_count es ≡ 0 → Holds es []
  pub both : (es fs : List Obligation) (gs hs : List PlacedEntailment) → Holds es gs → Holds fs hs → Holds (es ++ fs) (gs ++ hs)
  pub of_proved : (at : ℕ) (proofs : List Proof) → Given at proofs → (n : ℕ) (gs : List Entailment) → Holds (proved p t at proofs n gs) (placed_from at n gs)

ruleset none_asked = (count_numbers, count_reads, count_stable, count_types, count_state, count_guard)

module _ (p : Plain) (t : ℕ) (law : Alongside p t) where
  -- of the parts of a rule
  record Parts (ess : List (List Obligation)) (gs : List PlacedEntailment) : Type 0 where
    together : law.Holds (flat ess) gs

  nothing : Parts [] []
  nothing = record { together = law.none [] refl }

  pass : (es : List Obligation) (ess : List (List Obligation)) (gs : List PlacedEntailment) → entailment_count es ≡ 0 → Parts ess gs → Parts (es ∷ ess) gs
  pass es ess gs none h = record { together = law.both es (flat ess) [] gs (law.none es none) h.together }

  gain : (es : List Obligation) (ess : List (List Obligation)) (gs hs : List PlacedEntailment) → law.Holds es gs → Parts ess hs → Parts (es ∷ ess) (gs ++ hs)
  gain es ess gs hs here h = record { together = law.both es (flat ess) gs hs here h.together }

  last : (at : ℕ) (proofs : List Proof) → law.Given at proofs → (n : ℕ) (gs : List Entailment) (ess : List (List Obligation)) → Parts ess []
      → Parts (proved p t at proofs n gs ∷ ess) (placed_from at n gs)
  last at proofs given n gs ess h =
      subst (λ hs. Parts (proved p t at proofs n gs ∷ ess) hs) (append-nil (placed_from at n gs)) (gain _ ess _ [] (law.of_proved at proofs given n gs) h)

  ruleset by_parts = (nothing, pass, last, none_asked)

  mutual
    -- The parts of each rule ask for the entailments of the statement, in their order.
    stm_along : (s : Stm) (at : ℕ) (proofs : List Proof) (a : Point) → law.Given at proofs → AllGiven law.Given (proofs_within s)
        → Parts (stm_parts p t s at proofs a) (stm_entailments p t s at a)
    stm_along (branch e yes_block no_block join) at proofs a given h =
        let yes_start = with_guard p t a e in
        let no_start = with_guard p t a (neg e) in
        let yes_end = after_block p t yes_block yes_start in
        let gs = guard_follows p t a e ∷ [] in
        let hs = state_follows yes_end join ++ state_follows (after_block p t no_block no_start) join in
        pass _ _ _ (count_guard p t at a.held e)
        (pass _ _ _ refl (pass _ _ _ refl
        (gain _ _ (placed_from at 1 gs) _ (law.of_proved at proofs given 1 gs)
        (gain _ _ _ _ (block_along yes_block yes_start (given_first law.Given (placed_proofs yes_block) (placed_proofs no_block) h))
        (gain _ _ _ _ (block_along no_block no_start (given_rest law.Given (placed_proofs yes_block) (placed_proofs no_block) h))
        (pass _ _ _ refl
        (pass _ _ _ (count_state p t at yes_end.held join)
        (pass _ _ _ refl
        (last at proofs given 2 hs _ (pass _ _ _ (count_numbers p t at (length gs + length hs) proofs) nothing))))))))))
    stm_along (loop e inv b) at proofs a given h =
        let head = meet p t a inv in
        let body_start = with_guard p t head e in
        let gs = state_follows a inv ++ guard_follows p t head e ∷ [] in
        let hs = state_follows (after_block p t b body_start) inv in
        pass _ _ _ (count_state p t at a.held inv)
        (pass _ _ _ (count_guard p t at a.held e)
        (pass _ _ _ refl (pass _ _ _ refl
        (gain _ _ _ _ (law.of_proved at proofs given 1 gs)
        (gain _ _ _ _ (block_along b body_start h)
        (pass _ _ _ refl (pass _ _ _ refl
        (last at proofs given (suc (length gs)) hs _ (pass _ _ _ (count_numbers p t at (length gs + length hs) proofs) nothing)))))))))
    stm_along _ at proofs a given h = search by_parts depth 16

    pub block_along : (b : Block) (a : Point) → AllGiven law.Given (placed_proofs b) → law.Holds (block_obligations p t b a) (block_entailments p t b a)
    block_along done a h = law.none [] refl
    block_along (more at s proofs b) a h =
        let here = stm_along s at proofs a h.0 (given_first law.Given (proofs_within s) (placed_proofs b) h.1) in
        let rest = block_along b (after_stm p t s a) (given_rest law.Given (proofs_within s) (placed_proofs b) h.1) in
        law.both (flat (stm_parts p t s at proofs a)) (block_obligations p t b (after_stm p t s a)) (stm_entailments p t s at a)
        (block_entailments p t b (after_stm p t s a)) here.together rest

-- Of statements and of blocks ----------------------------------------------------------------------------------

pub placed_length : (at n : ℕ) (gs : List Entailment) → length (placed_from at n gs) ≡ length gs
placed_length at n [] = refl
placed_length at n (g ∷ gs) = omega (arith, placed_length at (suc n) gs)

module _ (p : Plain) (t : ℕ) where
  -- there are as many
  abbrev counted : Alongside p t
  counted = record {
    Holds = λ es gs. entailment_count es ≡ length gs;
    Given = λ at proofs. Unit {0};
    none = λ es h. h;
    both = λ es fs gs hs h k. omega (arith, count_append es fs, length-append gs hs, h, k);
    of_proved = λ at proofs given n gs. count_proved p t at proofs n gs ∙ sym (placed_length at n gs);
  }

  pub stm_counted : (s : Stm) (at : ℕ) (proofs : List Proof) (a : Point)
      → entailment_count (flat (stm_parts p t s at proofs a)) ≡ length (stm_entailments p t s at a)
  stm_counted s at proofs a = (stm_along p t counted s at proofs a tt (all_given counted.Given (λ _ _. tt) (proofs_within s))).together

  pub block_counted : (b : Block) (a : Point) → entailment_count (block_obligations p t b a) ≡ length (block_entailments p t b a)
  block_counted b a = block_along p t counted b a (all_given counted.Given (λ _ _. tt) (placed_proofs b))

module _ (p : Plain) (t at : ℕ) (proofs : List Proof) (a : Point) where
  -- those of a statement that has these alone
  pub count_own : (s : Stm) (gs : List Entailment) → stm_entailments p t s at a ≡ placed_from at 1 gs
      → entailment_count (flat (stm_parts p t s at proofs a)) ≡ length gs
  count_own s gs are = stm_counted p t s at proofs a ∙ ap length are ∙ placed_length at 1 gs

  -- that of the guard, those of both blocks, and those of the join
  pub count_branch : (e : Term) (yes_block no_block : Block) (join : State)
      → entailment_count (flat (stm_parts p t (branch e yes_block no_block join) at proofs a))
      ≡ 1 + entailment_count (block_obligations p t yes_block (with_guard p t a e)) + entailment_count (block_obligations p t no_block (with_guard p t a (neg e)))
      + length (state_follows (after_block p t yes_block (with_guard p t a e)) join ++ state_follows (after_block p t no_block (with_guard p t a (neg e))) join)
  count_branch e yes_block no_block join =
      let yes_end = after_block p t yes_block (with_guard p t a e) in
      let no_end = after_block p t no_block (with_guard p t a (neg e)) in
      let gs = guard_follows p t a e ∷ [] in
      let hs = state_follows yes_end join ++ state_follows no_end join in
      omega (
        arith,
        count_flat (stm_parts p t (branch e yes_block no_block join) at proofs a),
        count_guard p t at a.held e,
        count_proved p t at proofs 1 gs,
        count_state p t at yes_end.held join,
        count_proved p t at proofs (suc (length gs)) hs,
        count_numbers p t at (length gs + length hs) proofs,
      )

  -- those of the obligation and of the guard, those of the body, and those of its end
  pub count_loop : (e : Term) (inv : State) (b : Block)
      → entailment_count (flat (stm_parts p t (loop e inv b) at proofs a))
      ≡ length (state_follows a inv ++ guard_follows p t (meet p t a inv) e ∷ []) + entailment_count (block_obligations p t b (with_guard p t (meet p t a inv) e))
      + length (state_follows (after_block p t b (with_guard p t (meet p t a inv) e)) inv)
  count_loop e inv b =
      let head = meet p t a inv in
      let gs = state_follows a inv ++ guard_follows p t head e ∷ [] in
      let hs = state_follows (after_block p t b (with_guard p t head e)) inv in
      omega (
        arith,
        count_flat (stm_parts p t (loop e inv b) at proofs a),
        count_state p t at a.held inv,
        count_guard p t at a.held e,
        count_proved p t at proofs 1 gs,
        count_proved p t at proofs (suc (length gs)) hs,
        count_numbers p t at (length gs + length hs) proofs,
      )

-- those of a statement and of the statements behind it
pub count_more : (p : Plain) (t at : ℕ) (s : Stm) (proofs : List Proof) (b : Block) (a : Point)
    → entailment_count (block_obligations p t (more at s proofs b) a)
    ≡ entailment_count (flat (stm_parts p t s at proofs a)) + entailment_count (block_obligations p t b (after_stm p t s a))
count_more p t at s proofs b a = count_append (flat (stm_parts p t s at proofs a)) (block_obligations p t b (after_stm p t s a))
