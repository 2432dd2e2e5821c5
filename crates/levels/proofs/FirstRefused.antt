-- The first level for which a program is refused, as it is worked out, is the first.
use Rattle.std.proofs.Common.{◌≡◌, ℕ, zero, suc, ◌+◌, ◌<◌, ◌≤◌, ◌⊎◌, ◌&&◌, List, [], ◌∷◌, length, Bool, true, false, cond, IsTrue, Option, Some, None, refl, ap, subst, ◌∙◌, inl, inr, arith}
use Rattle.std.proofs.lemmas.Bool.{cases_lt}
use Rattle.cov_ast.proofs.ObligationLaws.{none_refused}
use Rattle.cov_ast.specs.Obligations.{Obligation, all_hold, first_false}
use Rattle.cov_ast.specs.Syntax.{Program}
use Rattle.cov_ast.specs.declared.refusal.Refusal.{Refusal}
use Rattle.level_text.specs.Lattice.{Levels}
use Rattle.levels.specs.Accepted.{IsAcceptedForAll, IsFirstRefused, IsRefusedFirst, first_refused, refused_from, refused_or}
use Rattle.levels.specs.Projection.{projected}
use Rattle.typing_law.specs.Accepted.{IsAccepted, program_obligations}

module _ (l : Levels) (p : Program) where
  -- what is accepted has no obligation that doesn't hold
  accepted_none : (observer : ℕ) → IsAccepted (projected l observer p) → first_false (program_obligations (projected l observer p)) ≡ None
  accepted_none observer = held (program_obligations (projected l observer p))
    where
      held : (es : List Obligation) → IsTrue (all_hold es) → first_false es ≡ None
      held [] h = refl
      held (e ∷ es) h = go (held es) e.holds h
        where
          go : (IsTrue (all_hold es) → first_false es ≡ None) → (b : Bool) → IsTrue (b && all_hold es) → cond b (first_false es) (Some e.refusal) ≡ None
          go rest true h = rest h
          go rest false h = cc

  -- where all are accepted none is refused
  none_from : (left observer : ℕ) → ((other : ℕ) → observer ≤ other → other < observer + left → IsAccepted (projected l other p))
      → refused_from l p observer left ≡ None
  none_from zero observer all = refl
  none_from (suc left) observer all =
      ap (λ o. refused_or l p observer o (refused_from l p (suc observer) left))
      (accepted_none observer (all observer (omega arith) (omega arith)))
      ∙ none_from left (suc observer) (λ other above below. all other (omega (arith, above)) (omega (arith, below)))

  pub none_refused_for : IsAcceptedForAll l p → first_refused l p ≡ None
  none_refused_for all = none_from (length l.names) 0 (λ other above below. all other (omega (arith, below)))

  -- and where one isn't, behind such as are, it is the first
  first_from : (left observer : ℕ) (at : ℕ) (refusal : Refusal) → observer ≤ at → at < observer + left
      → ((other : ℕ) → observer ≤ other → other < at → IsAccepted (projected l other p)) → first_false (program_obligations (projected l at p)) ≡ Some refusal
      → refused_from l p observer left ≡ Some (at, refusal)
  first_from zero observer at refusal above below earlier first = absurd (omega (arith, above, below))
  first_from (suc left) observer at refusal above below earlier first =
      by (cases_lt observer at)
      (λ less. first_from left (suc observer) at refusal less (omega (arith, below)) (λ other over under. earlier other (omega (arith, over)) under) first)
    where
      by : (observer < at) ⊎ (at ≤ observer) → (observer < at → refused_from l p (suc observer) left ≡ Some (at, refusal))
          → refused_from l p observer (suc left) ≡ Some (at, refusal)
      by (inl less) rest =
          ap (λ o. refused_or l p observer o (refused_from l p (suc observer) left))
          (accepted_none observer (earlier observer (omega arith) less))
          ∙ rest less
      by (inr past) rest =
          let same : observer ≡ at = omega (arith, above, past) in
          ap (λ o. refused_or l p observer o (refused_from l p (suc observer) left)) (ap (λ n. first_false (program_obligations (projected l n p))) same ∙ first)
          ∙ ap (λ n. Some (n, refusal)) same

  pub first_is_refused : (observer : ℕ) (refusal : Refusal) → IsFirstRefused l p observer refusal → first_refused l p ≡ Some (observer, refusal)
  first_is_refused observer refusal h =
      first_from (length l.names) 0 observer refusal (omega arith) (omega (arith, h.level)) (λ other above below. h.earlier other below) h.first

  -- where none is refused all are accepted
  neither : (observer : ℕ) (o : Option Refusal) (later : Option (ℕ × Refusal)) → refused_or l p observer o later ≡ None → (o ≡ None) × (later ≡ None)
  neither observer None later h = (refl, h)
  neither observer (Some refusal) later h = cc

  accepted_from : (left observer : ℕ) → refused_from l p observer left ≡ None → (other : ℕ) → observer ≤ other → other < observer + left
      → IsAccepted (projected l other p)
  accepted_from zero observer none other above below = absurd (omega (arith, above, below))
  accepted_from (suc left) observer none other above below =
      let parts = neither observer (first_false (program_obligations (projected l observer p))) (refused_from l p (suc observer) left) none in
      by (cases_lt observer other) parts.0 (λ less. accepted_from left (suc observer) parts.1 other less (omega (arith, below)))
    where
      by : (observer < other) ⊎ (other ≤ observer) → first_false (program_obligations (projected l observer p)) ≡ None
          → (observer < other → IsAccepted (projected l other p)) → IsAccepted (projected l other p)
      by (inl less) here rest = rest less
      by (inr past) here rest =
          let same : observer ≡ other = omega (arith, above, past) in
          subst (λ n. IsAccepted (projected l n p)) same (none_refused (program_obligations (projected l observer p)) here)

  pub none_are_accepted : first_refused l p ≡ None → IsAcceptedForAll l p
  none_are_accepted none other below = accepted_from (length l.names) 0 none other (omega arith) (omega (arith, below))

  -- a level below a bound is refused, and those before it are accepted
  abbrev IsFoundBelow : (at : ℕ) → Refusal → (end : ℕ) → Type 0
  IsFoundBelow at refusal end =
      (at < end) × ((other : ℕ) → other < at → IsAccepted (projected l other p)) × (first_false (program_obligations (projected l at p)) ≡ Some refusal)

  -- what comes of the levels is the first that is refused
  was_first : (left observer : ℕ) (at : ℕ) (refusal : Refusal) → refused_from l p observer left ≡ Some (at, refusal)
      → ((other : ℕ) → other < observer → IsAccepted (projected l other p)) → IsFoundBelow at refusal (observer + left)
  was_first zero observer at refusal h earlier = cc
  was_first (suc left) observer at refusal h earlier =
      by (first_false (program_obligations (projected l observer p))) refl h
      (λ here later. was_first left (suc observer) at refusal later (λ other below. either other (cases_lt other observer) below here))
    where
      either : (other : ℕ) → (other < observer) ⊎ (observer ≤ other) → other < suc observer → IsAccepted (projected l observer p) → IsAccepted (projected l other p)
      either other (inl less) below here = earlier other less
      either other (inr past) below here = let same : observer ≡ other = omega (arith, past, below) in subst (λ n. IsAccepted (projected l n p)) same here

      by : (o : Option Refusal) → first_false (program_obligations (projected l observer p)) ≡ o
          → refused_or l p observer o (refused_from l p (suc observer) left) ≡ Some (at, refusal)
          → (IsAccepted (projected l observer p) → refused_from l p (suc observer) left ≡ Some (at, refusal) → IsFoundBelow at refusal (suc observer + left))
          → IsFoundBelow at refusal (observer + suc left)
      by None e k rest =
          let found = rest (none_refused (program_obligations (projected l observer p)) e) k in
          (omega (arith, found.0), found.1, found.2)
      by (Some r) e k rest =
          let same : ◌≡◌ {A = ℕ × Refusal} (observer, r) (at, refusal) = cc in
          let is : observer ≡ at = ap (λ q. q.0) same in
          let refused : r ≡ refusal = ap (λ q. q.1) same in (
            omega (arith, is),
            subst (λ n. (other : ℕ) → other < n → IsAccepted (projected l other p)) is earlier,
            subst (λ n. first_false (program_obligations (projected l n p)) ≡ Some refusal) is (e ∙ ap (λ q. Some q) refused),
          )

  pub refused_first : IsRefusedFirst l p
  refused_first = record {
    none = (none_are_accepted, none_refused_for);
    some = λ observer refusal. (
      λ h. let found = was_first (length l.names) 0 observer refusal h (λ other below. absurd (omega (arith, below))) in
          record { level = omega (arith, found.0); earlier = found.1; first = found.2 },
      first_is_refused observer refusal,
    );
  }
