-- Runs of a schedule on any machine, step by step.
use Rattle.std.proofs.Common.{◌≡◌, ℕ, zero, suc, ◌+◌, ◌<◌, ◌≤◌, List, [], ◌∷◌, ◌++◌, length, take, get_or, refl, sym, ap, ◌∙◌, subst, arith, length-append, append-nil}
use Rattle.std.proofs.lemmas.List.{take_more}
use Rattle.cov_expr.specs.Words.{IsSchedule}
use Rattle.flow_model.specs.Runs.{count_of, run_from, stayed_from}
use Rattle.flow_model.specs.declared.machine.Stepped.{Stepped}
use Rattle.schedule_replay.specs.Machines.{DoAgree, GrowsByOne, HasStepped, IsAlikeIn, IsQuiet, Semantics, Seen, answer_of, declared_by}
use Rattle.schedule_replay.specs.Inside.{HasRun, KeepsAgreement}

-- Schedules ----------------------------------------------------------------------------------------------------

pub entry_below : (n : ℕ) (ts : List ℕ) (k : ℕ) → IsSchedule n ts → k < length ts → get_or ts k 0 < n
entry_below n [] k h l = absurd (omega arith)
entry_below n (t ∷ ts) zero h l = h.0
entry_below n (t ∷ ts) (suc k) h l = entry_below n ts k h.1 (omega arith)

module _ {State : Type 0} (step : State → ℕ → State) where
  -- one more step at the end
  pub run_from_more : (s : State) (ts : List ℕ) (t : ℕ) → run_from step s (ts ++ t ∷ []) ≡ step (run_from step s ts) t
  run_from_more s [] t = refl
  run_from_more s (u ∷ ts) t = run_from_more (step s u) ts t

  pub stayed_from_more : (says : State → ℕ → Stepped) (s : State) (ts : List ℕ) (t : ℕ)
      → stayed_from step says s (ts ++ t ∷ []) ≡ stayed_from step says s ts + count_of (says (run_from step s ts) t)
  stayed_from_more says s [] t = omega arith
  stayed_from_more says s (u ∷ ts) t = let e = stayed_from_more says (step s u) ts t in rw e (omega arith)

-- Outputs ------------------------------------------------------------------------------------------------------

pub same_outputs : (o : List ℕ) → GrowsByOne o o
same_outputs o = record { more = []; few = omega arith; grown = sym (append-nil o) }

pub grown_length : (o p : List ℕ) → GrowsByOne o p → length p ≤ length o + 1
grown_length o p g = let e = ap length g.grown ∙ length-append o g.more in let k = g.few in omega arith

-- Machines -----------------------------------------------------------------------------------------------------

module _ {Code State : Type 0} (semantics : Semantics Code State) (c : Code) (before now : Seen Code State) (schedule : List ℕ) (k : ℕ) (h : HasRun semantics c before now schedule k) where
  pub has_thread : (n : ℕ) → k < length schedule → IsSchedule n schedule → (semantics.declared c).threads ≡ n → get_or schedule k 0 < (declared_by semantics now).threads
  has_thread n l s e = subst (λ q. get_or schedule k 0 < (semantics.declared q).threads) (sym h.code) (subst (λ m. get_or schedule k 0 < m) (sym e) (entry_below n schedule k s l))

  pub has_run_more : (next : Seen Code State) → k < length schedule → HasStepped semantics now next (get_or schedule k 0) → HasRun semantics c before next schedule (k + 1)
  has_run_more next l s = record {
    code = s.code ∙ h.code;
    room = s.room ∙ h.room;
    state =
        s.state ∙ ap (λ q. semantics.step q now.state (get_or schedule k 0)) h.code
        ∙ ap (λ z. semantics.step c z (get_or schedule k 0)) h.state
        ∙ sym (run_from_more (semantics.step c) before.state (take k schedule) (get_or schedule k 0))
        ∙ ap (run_from (semantics.step c) before.state) (sym (take_more schedule k 0 l));
    outputs =
        let grown = grown_length _ _ s.grows in
        let o = h.outputs in omega arith;
  }

  pub has_stayed_more : (stayed : ℕ) → k < length schedule → stayed ≡ stayed_from (semantics.step c) (semantics.says c) before.state (take k schedule)
      → stayed + count_of (answer_of semantics now (get_or schedule k 0)) ≡ stayed_from (semantics.step c) (semantics.says c) before.state (take (k + 1) schedule)
  has_stayed_more stayed l e =
      ap (λ n. n + count_of (answer_of semantics now (get_or schedule k 0))) e
      ∙ ap (λ q. stayed_from (semantics.step c) (semantics.says c) before.state (take k schedule) + count_of (semantics.says q now.state (get_or schedule k 0))) h.code
      ∙ ap (λ z. stayed_from (semantics.step c) (semantics.says c) before.state (take k schedule) + count_of (semantics.says c z (get_or schedule k 0))) h.state
      ∙ sym (stayed_from_more (semantics.step c) (semantics.says c) before.state (take k schedule) (get_or schedule k 0))
      ∙ ap (stayed_from (semantics.step c) (semantics.says c) before.state) (sym (take_more schedule k 0 l))

-- Agreement ----------------------------------------------------------------------------------------------------

module _ {Code State : Type 0} (semantics : Semantics Code State) where
  -- States that stay as they are keep agreement.
  pub kept_still : (r s now other : State) → now ≡ r → other ≡ s → KeepsAgreement semantics r s now other
  kept_still r s now other a b p h = subst (λ x. DoAgree semantics p x other) (sym a) (subst (λ y. DoAgree semantics p r y) (sym b) h)

  -- So do quiet steps that leave the thread alike.
  pub kept_quiet : (a b now other : Seen Code State) (t : ℕ) → b.code ≡ a.code → HasStepped semantics a now t → HasStepped semantics b other t
      → IsQuiet semantics a.code a.state t → IsAlikeIn semantics now.state other.state t → KeepsAgreement semantics a.state b.state now.state other.state
  kept_quiet a b now other t equal first second quiet alike p h =
      let there : other.state ≡ semantics.step a.code b.state t = second.state ∙ ap (λ q. semantics.step q b.state t) equal in
      subst (λ x. DoAgree semantics p x other.state) (sym first.state)
      (subst (λ y. DoAgree semantics p (semantics.step a.code a.state t) y) (sym there)
      (quiet p b.state h (subst (λ y. semantics.IsAlike (semantics.step a.code a.state t) y t) there (subst (λ x. semantics.IsAlike x other.state t) first.state alike))))
