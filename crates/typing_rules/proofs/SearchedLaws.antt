-- Laws of what is asked in a thread, of which what isn't proved is searched for.
use Rattle.std.proofs.Common.{◌≡◌, ℕ, zero, suc, List, [], ◌∷◌, ◌++◌, length, map, take, Bool, true, false, cond, not, refl, sym, ap, ◌∙◌}
use Rattle.std.specs.Prelude.{filter}
use Rattle.std.proofs.lemmas.List.{take_at}
use Rattle.cov_ast.specs.Obligations.{Obligation}
use Rattle.cov_ast.specs.Syntax.{Program}
use Rattle.mode_compat.specs.Compatible.{numbered}
use Rattle.typing_law.specs.ThreadEntailments.{PlacedEntailment, all_entailments, entailment_obligation, entailment_obligations, is_passed, is_proved_in, reached, thread_entailments}
use Rattle.typing_law.specs.ThreadObligations.{thread_obligations}
use Rattle.typing_rules.specs.Keeping.{Asked, asked_in_thread, beside, kept_for, sought_among, searched_for}
use Rattle.typing_rules.specs.Searched.{searched_in_thread}
use Rattle.typing_rules.specs.declared.purpose.Purpose.TheVariants.{Search}
use Rattle.typing_rules.proofs.AskedLaws.{asking-append, asking_counted}
use Rattle.typing_rules.proofs.KeptLaws.{all_sought}

-- Some obligations are the first of others.
abbrev AreFirst : (first whole : List Obligation) → Type 0
AreFirst first whole = (rest : List Obligation) × (whole ≡ first ++ rest)

-- those that are reached
reached_first : (os : List Obligation) → AreFirst (reached os) os
reached_first [] = ([], refl)
reached_first (e ∷ es) = go (is_passed e) (reached_first es)
  where
    go : (b : Bool) → AreFirst (reached es) es → AreFirst (cond b (e ∷ reached es) []) (e ∷ es)
    go true h = (h.0, ap (λ l. e ∷ l) h.1)
    go false h = (e ∷ es, refl)

-- an entailment, with what a test says of it
abbrev as_asked : (PlacedEntailment → Bool) → PlacedEntailment → Asked
as_asked test g = record { listed = g; proved = test g }

-- the entailments that stand first, each beside what asks for it
beside_taken : (n : ℕ) (f : PlacedEntailment → Obligation) (gs : List PlacedEntailment) → beside (take n (map f gs)) gs ≡ map (as_asked (λ g. (f g).holds)) (take n gs)
beside_taken zero f gs = refl
beside_taken (suc n) f [] = refl
beside_taken (suc n) f (g ∷ gs) = ap (λ l. as_asked (λ h. (f h).holds) g ∷ l) (beside_taken n f gs)

module _ (p : Program) (t : ℕ) (is : entailment_obligations (thread_obligations p t) ≡ map (entailment_obligation t (numbered p t).body) (all_entailments p t)) where
  abbrev asking : List Obligation
  asking = entailment_obligations (reached (thread_obligations p t))

  asking_first : asking ≡ take (length asking) (map (entailment_obligation t (numbered p t).body) (all_entailments p t))
  asking_first =
      let front = reached_first (thread_obligations p t) in
      sym (take_at asking (entailment_obligations front.0) (length asking) refl)
      ∙ ap (take (length asking)) (sym (asking-append (reached (thread_obligations p t)) front.0) ∙ ap entailment_obligations (sym front.1) ∙ is)

  -- each entailment that is listed of the thread, with whether it is proved there
  pub asked_is : asked_in_thread p t ≡ map (as_asked (is_proved_in (numbered p t).body)) (thread_entailments p t)
  asked_is =
      ap (λ es. beside es (all_entailments p t)) asking_first
      ∙ beside_taken (length asking) (entailment_obligation t (numbered p t).body) (all_entailments p t)
      ∙ ap (λ n. map (as_asked (is_proved_in (numbered p t).body)) (take n (all_entailments p t))) (asking_counted (reached (thread_obligations p t)))

unproved_searched : (depth : ℕ) (test : PlacedEntailment → Bool) (gs : List PlacedEntailment)
    → map (λ a. searched_for depth a.listed) (filter (λ a. not a.proved) (map (as_asked test) gs)) ≡ map (searched_for depth) (filter (λ g. not (test g)) gs)
unproved_searched depth test [] = refl
unproved_searched depth test (g ∷ gs) =
    go (not (test g)) (filter (λ a. not a.proved) (map (as_asked test) gs)) (filter (λ h. not (test h)) gs) (unproved_searched depth test gs)
  where
    go : (b : Bool) (asked : List Asked) (rest : List PlacedEntailment) → map (λ a. searched_for depth a.listed) asked ≡ map (searched_for depth) rest
        → map (λ a. searched_for depth a.listed) (cond b (as_asked test g ∷ asked) asked) ≡ map (searched_for depth) (cond b (g ∷ rest) rest)
    go true asked rest h = ap (λ l. searched_for depth g ∷ l) h
    go false asked rest h = h

-- what a walk that searches keeps of a thread
pub searched_is : (depth : ℕ) (p : Program) (t : ℕ) → entailment_obligations (thread_obligations p t) ≡ map (entailment_obligation t (numbered p t).body) (all_entailments p t)
    → sought_among (kept_for (Search depth) (asked_in_thread p t)) ≡ searched_in_thread depth p t
searched_is depth p t is =
    all_sought (λ a. searched_for depth a.listed) (filter (λ a. not a.proved) (asked_in_thread p t))
    ∙ ap (λ asked. map (λ a. searched_for depth a.listed) (filter (λ a. not a.proved) asked)) (asked_is p t is)
    ∙ unproved_searched depth (is_proved_in (numbered p t).body) (thread_entailments p t)
