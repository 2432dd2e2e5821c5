-- Laws of what is found first: two runs have one first step apart, or agree throughout; and trials have one first trial, or none.
use Rattle.std.proofs.Common.{◌≡◌, ℕ, ◌+◌, ◌<◌, List, length, Option, Some, None, inl, inr, refl, sym, ap, ap₂, ◌∙◌, subst, arith}
use Rattle.std.proofs.lemmas.Bool.{cases_lt}
use Rattle.cov_ast.specs.Plain.{Plain}
use Rattle.flow_model.specs.Agreement.{IsAlikeAt, IsFirstApart}
use Rattle.flow_model.specs.Source.{Run, begin}
use Rattle.flow_model.specs.declared.agreement.Differ.{Differ}
use Rattle.flow_model.specs.declared.agreement.Differ.TheVariants as differs
use Rattle.schedule_replay.specs.Replays.{AgreeThroughout, DiffersIn, IsFirstStepApart, after_steps}
use Rattle.schedule_replay.specs.declared.replays.Found.{Found}
use Rattle.refute.specs.Trials as trials
use Rattle.refute.specs.Trials.{AgreeBefore, AgreesIfFit, IsApart, IsFirstTrial}

-- Numbers ------------------------------------------------------------------------------------------------------

-- numbers of which neither is below the other
pub same_number : (m n : ℕ) → (m < n → ⊥) → (n < m → ⊥) → m ≡ n
same_number m n no_less no_more = elim (cases_lt m n) [
  | inl less ↦ absurd (no_less less)
  | inr more ↦ elim (cases_lt n m) [ inl less ↦ absurd (no_more less) | inr least ↦ omega (arith, more, least) ]
]

-- Two runs -----------------------------------------------------------------------------------------------------

-- two states differ in one thing
module _ (p : Plain) (r q : Run) where
  apart_one : (n t u : ℕ) → IsFirstApart IsAlikeAt r q n t → IsFirstApart IsAlikeAt r q n u → t < u → ⊥
  apart_one n t u h k l = h.apart (k.before t l)

  threads_one : (n t u : ℕ) → IsFirstApart IsAlikeAt r q n t → IsFirstApart IsAlikeAt r q n u → t ≡ u
  threads_one n t u h k = same_number t u (apart_one n t u h k) (apart_one n u t k h)

  differs_one : (d e : Differ) → DiffersIn p r q d → DiffersIn p r q e → d ≡ e
  differs_one (differs.Lock l) (differs.Lock m) h k = let same : Some (differs.Lock l) ≡ Some (differs.Lock m) = sym h ∙ k in cc
  differs_one (differs.Lock l) (differs.Var y) h k = let wrong : Some (differs.Lock l) ≡ Some (differs.Var y) = sym h ∙ k in cc
  differs_one (differs.Lock l) differs.Output h k = let wrong : Some (differs.Lock l) ≡ None = sym h ∙ k.0 in cc
  differs_one (differs.Lock l) (differs.Thread u) h k = let wrong : Some (differs.Lock l) ≡ None = sym h ∙ k.0 in cc
  differs_one (differs.Var x) (differs.Lock m) h k = let wrong : Some (differs.Var x) ≡ Some (differs.Lock m) = sym h ∙ k in cc
  differs_one (differs.Var x) (differs.Var y) h k = let same : Some (differs.Var x) ≡ Some (differs.Var y) = sym h ∙ k in cc
  differs_one (differs.Var x) differs.Output h k = let wrong : Some (differs.Var x) ≡ None = sym h ∙ k.0 in cc
  differs_one (differs.Var x) (differs.Thread u) h k = let wrong : Some (differs.Var x) ≡ None = sym h ∙ k.0 in cc
  differs_one differs.Output (differs.Lock m) h k = let wrong : None ≡ Some (differs.Lock m) = sym h.0 ∙ k in cc
  differs_one differs.Output (differs.Var y) h k = let wrong : None ≡ Some (differs.Var y) = sym h.0 ∙ k in cc
  differs_one differs.Output differs.Output h k = refl
  differs_one differs.Output (differs.Thread u) h k = absurd (h.1 k.1)
  differs_one (differs.Thread t) (differs.Lock m) h k = let wrong : None ≡ Some (differs.Lock m) = sym h.0 ∙ k in cc
  differs_one (differs.Thread t) (differs.Var y) h k = let wrong : None ≡ Some (differs.Var y) = sym h.0 ∙ k in cc
  differs_one (differs.Thread t) differs.Output h k = absurd (k.1 h.1)
  differs_one (differs.Thread t) (differs.Thread u) h k = ap differs.Thread (threads_one (length p.threads) t u h.2 k.2)

module _ (p : Plain) (r q : Run) (schedule : List ℕ) where
  -- a step before the first one apart
  not_sooner : (f g : Found) → IsFirstStepApart p r q schedule f → IsFirstStepApart p r q schedule g → f.step < g.step → ⊥
  not_sooner f g h k l = h.apart (k.before f.step l h.some)

  step_one : (f g : Found) → IsFirstStepApart p r q schedule f → IsFirstStepApart p r q schedule g → f.step ≡ g.step
  step_one f g h k = same_number f.step g.step (not_sooner f g h k) (not_sooner g f k h)

  pub found_one : (f g : Found) → IsFirstStepApart p r q schedule f → IsFirstStepApart p r q schedule g → f ≡ g
  found_one f g h k =
      let step = step_one f g h k in
      let same = differs_one p (after_steps r schedule g.step) (after_steps q schedule g.step) f.differ g.differ (subst (λ n. DiffersIn p (after_steps r schedule n) (after_steps q schedule n) f.differ) step h.differ) k.differ in
      let made : ℕ → Differ → Found = λ n d. record { step = n; differ = d } in
      ap₂ made step same

  pub together_or_apart : (f : Found) → AgreeThroughout p r q schedule → IsFirstStepApart p r q schedule f → ⊥
  together_or_apart f h k = k.apart (h f.step k.within k.some)

-- Trials -------------------------------------------------------------------------------------------------------

-- the trial with this number is found, and this of it
abbrev found_at : ℕ → Found → Option (ℕ × Found)
found_at i f = Some (i, f)

module _ (p : Plain) where
  -- where a trial is apart, it doesn't agree
  agrees_or_apart : (i : ℕ) (found : Found) → AgreesIfFit p i → IsApart p i found → ⊥
  agrees_or_apart i found agrees apart =
      together_or_apart p (begin p (trials.first_memory p i)) (begin p (trials.second_memory p i)) (trials.schedule p i) found (agrees apart.0) apart.1

  -- a trial before the first one apart
  no_sooner_trial : (n i j : ℕ) (f g : Found) → trials.IsFirstApart p n i f → trials.IsFirstApart p n j g → i < j → ⊥
  no_sooner_trial n i j f g h k l = agrees_or_apart i f (k.before i l h.some) h.apart

  -- of one number the trial is apart at one step, in one thing
  trial_found : (i : ℕ) (f g : Found) → IsApart p i f → IsApart p i g → f ≡ g
  trial_found i f g h k = found_one p (begin p (trials.first_memory p i)) (begin p (trials.second_memory p i)) (trials.schedule p i) f g h.1 k.1

  trials_one : (n i j : ℕ) (f g : Found) → trials.IsFirstApart p n i f → trials.IsFirstApart p n j g → found_at i f ≡ found_at j g
  trials_one n i j f g h k =
      let number : i ≡ j = same_number i j (no_sooner_trial n i j f g h k) (no_sooner_trial n j i g f k h) in
      ap₂ found_at number (trial_found j f g (subst (λ m. IsApart p m f) number h.apart) k.apart)

  -- where all trials agree, none is apart
  none_apart : (n i : ℕ) (f : Found) → AgreeBefore p (n + 1) → trials.IsFirstApart p n i f → ⊥
  none_apart n i f agree h = let within = h.within in agrees_or_apart i f (agree i (omega (arith, within)) h.some) h.apart

  pub first_trial_one : (n : ℕ) (found other : Option (ℕ × Found)) → IsFirstTrial p n found → IsFirstTrial p n other → found ≡ other
  first_trial_one n None None h k = refl
  first_trial_one n None (Some (j, g)) h k = absurd (none_apart n j g h k)
  first_trial_one n (Some (i, f)) None h k = absurd (none_apart n i f k h)
  first_trial_one n (Some (i, f)) (Some (j, g)) h k = trials_one n i j f g h k
