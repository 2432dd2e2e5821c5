-- The obligations of V9 are those of the entailments, in their order.
use Rattle.std.proofs.Common.{◌≡◌, ℕ, suc, ◌+◌, ◌<◌, ◌==◌, List, [], ◌∷◌, ◌++◌, length, map, not, Bool, true, false, cond, refl, sym, ap, ◌∙◌, arith, eq-eqb}
use Rattle.std.specs.List.{list_all, list_any}
use Rattle.std.proofs.lemmas.Bool.{and_parts, not-true, or_parts}
use Rattle.std.proofs.lemmas.List.{append-nil, map-append}
use Rattle.std.proofs.lemmas.List.Elements.{filter-append}
use Rattle.cov_ast.specs.Obligations.{Obligation}
use Rattle.cov_ast.specs.Plain.{Plain, plain}
use Rattle.cov_ast.specs.Syntax.{Proof, Stm, branch, loop, Block, done, more, Program}
use Rattle.cov_ast.specs.WellFormed.{IsWellFormed, are_distinct, places, places_within}
use Rattle.cov_ast.specs.declared.refusal.Rule.TheVariants.{V9}
use Rattle.cov_ast.specs.declared.refusal.Detail.TheVariants.{Number}
use Rattle.mode_compat.specs.Compatible.{numbered, no_thread}
use Rattle.point_law.specs.After.{start}
use Rattle.typing_law.specs.Counts.{entailment_count, is_entailment}
use Rattle.typing_law.specs.Entailments.{Entailment, is_proved}
use Rattle.typing_law.specs.ThreadEntailments.{PlacedEntailment, all_entailments, entailment_obligation, entailment_obligations, is_passed, placed_from, placed_proofs, proofs_among, proofs_within, thread_entailments}
use Rattle.typing_law.specs.ThreadObligations.{block_obligations, end_obligation, end_point, obligation, proved, thread_obligation, thread_obligations}
use Rattle.typing_law.proofs.Counting.{AllGiven, Alongside, block_along, block_counted, count_append, count_cons}
use Rattle.typing_law.proofs.Reached.{all_reached}

-- lists of equal parts are equal
joined : {X : Type 0} (a b c d : List X) → a ≡ b → c ≡ d → (a ++ c) ≡ (b ++ d)
joined a b c d h k = ap (λ x. x ++ c) h ∙ ap (λ y. b ++ y) k

-- Proofs by place --------------------------------------------------------------------------------------------------

-- at each of these places, these proofs are given
abbrev Gives : (ℕ → List Proof) → List (ℕ × List Proof) → Type 0
Gives given qs = AllGiven (λ at proofs. given at ≡ proofs) qs

abbrev places_of : List (ℕ × List Proof) → List ℕ
places_of qs = map (λ q. q.0) qs

-- one at another place in front changes nothing
passed : (q : ℕ × List Proof) (qs rs : List (ℕ × List Proof)) → list_any (λ x. q.0 == x) (places_of rs) ≡ false → Gives (proofs_among qs) rs
    → Gives (proofs_among (q ∷ qs)) rs
passed q qs [] apart h = tt
passed q qs (r ∷ rs) apart h =
    let both = or_parts (q.0 == r.0) (list_any (λ x. q.0 == x) (places_of rs)) apart in
    (ap (λ b. cond b q.1 (proofs_among qs r.0)) both.0 ∙ h.0, passed q qs rs both.1 h.1)

found : (qs : List (ℕ × List Proof)) → are_distinct (◌==◌) (places_of qs) ≡ true → Gives (proofs_among qs) qs
found [] h = tt
found (q ∷ qs) h =
    let both = and_parts (not (list_any (λ x. q.0 == x) (places_of qs))) (are_distinct (◌==◌) (places_of qs)) h in (
      ap (λ b. cond b q.1 (proofs_among qs q.0)) (eq-eqb q.0 q.0 refl),
      passed q qs qs (not-true (list_any (λ x. q.0 == x) (places_of qs)) both.0) (found qs both.1),
    )

mutual
  within_placed : (s : Stm) → places_of (proofs_within s) ≡ places_within s
  within_placed (branch e a b join) = map-append (λ q. q.0) (placed_proofs a) (placed_proofs b) ∙ joined _ _ _ _ (block_placed a) (block_placed b)
  within_placed (loop e inv b) = block_placed b
  within_placed _ = refl

  block_placed : (b : Block) → places_of (placed_proofs b) ≡ places b
  block_placed done = refl
  block_placed (more at s proofs b) =
      ap (λ ps. at ∷ ps) (map-append (λ q. q.0) (proofs_within s) (placed_proofs b) ∙ joined _ _ _ _ (within_placed s) (block_placed b))

-- Obligations ------------------------------------------------------------------------------------------------------

-- where none asks that something follows, none is of V9
none_asked : (es : List Obligation) → entailment_count es ≡ 0 → entailment_obligations es ≡ []
none_asked [] h = refl
none_asked (e ∷ es) h = go (none_asked es) (is_entailment e.refusal.rule) (sym (count_cons e es) ∙ h)
  where
    go : (entailment_count es ≡ 0 → entailment_obligations es ≡ []) → (b : Bool) → (0 + cond b 1 0) + entailment_count es ≡ 0
        → cond b (e ∷ entailment_obligations es) (entailment_obligations es) ≡ []
    go rest true h = absurd (omega (arith, h))
    go rest false h = rest (omega (arith, h))

module _ (p : Plain) (t : ℕ) (given : ℕ → List Proof) where
  -- V9 of an entailment with the proofs that are given
  abbrev asked : PlacedEntailment → Obligation
  asked g = thread_obligation t g.place V9 (Number g.number) (is_proved (given g.place) g.number g.entailment)

  of_proved : (at : ℕ) (proofs : List Proof) → given at ≡ proofs → (n : ℕ) (gs : List Entailment)
      → entailment_obligations (proved p t at proofs n gs) ≡ map asked (placed_from at n gs)
  of_proved at proofs same n [] = refl
  of_proved at proofs same n (g ∷ gs) =
      ap (λ q. obligation p t at V9 (Number n) (is_proved q n g) ∷ entailment_obligations (proved p t at proofs (suc n) gs)) (sym same)
      ∙ ap (λ es. obligation p t at V9 (Number n) (is_proved (given at) n g) ∷ es) (of_proved at proofs same (suc n) gs)

  -- those of V9 are those of these entailments
  abbrev those : Alongside p t
  those = record {
    Holds = λ es gs. entailment_obligations es ≡ map asked gs;
    Given = λ at proofs. given at ≡ proofs;
    none = none_asked;
    both = λ es fs gs hs h k.
        filter-append (λ e. is_entailment e.refusal.rule) es fs
        ∙ joined (entailment_obligations es) (map asked gs) (entailment_obligations fs) (map asked hs) h k ∙ sym (map-append asked gs hs);
    of_proved = of_proved;
  }

-- Threads ----------------------------------------------------------------------------------------------------------

pub of_thread : (p : Program) → IsWellFormed p → (t : ℕ) → t < length p.threads
    → entailment_obligations (thread_obligations p t) ≡ map (entailment_obligation t (numbered p t).body) (all_entailments p t)
of_thread p formed t inside =
    let body = (numbered p t).body in
    let from = start (plain p) t in
    let given = proofs_among (placed_proofs body) in
    let differ : are_distinct (◌==◌) (places_of (placed_proofs body)) ≡ true =
    ap (are_distinct (◌==◌)) (block_placed body) ∙ (formed.bodies t no_thread inside).places_differ in
    filter-append (λ e. is_entailment e.refusal.rule) (block_obligations (plain p) t body from) _
    ∙ append-nil (entailment_obligations (block_obligations (plain p) t body from))
    ∙ block_along (plain p) t (those (plain p) t given) body from (found (placed_proofs body) differ)

pub reached_whole : (p : Program) (t : ℕ) → list_all is_passed (thread_obligations p t) ≡ true → thread_entailments p t ≡ all_entailments p t
reached_whole p t passing =
    let from = start (plain p) t in
    let of_body = block_obligations (plain p) t (numbered p t).body from in
    let of_end = end_obligation (plain p) t (numbered p t).end (end_point p t).held ∷ [] in
    let counted : entailment_count (thread_obligations p t) ≡ length (all_entailments p t) =
    omega (arith, count_append of_body of_end, block_counted (plain p) t (numbered p t).body from) in
    all_reached (thread_obligations p t) (all_entailments p t) passing counted
