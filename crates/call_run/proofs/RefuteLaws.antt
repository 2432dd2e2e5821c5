-- Laws of trials: there is one reply, and that to an accepted program is never that two runs differ.
use Rattle.std.proofs.Common.{◌≡◌, ◌⊎◌, ◌↔◌, ℕ, Option, Some, None, refl, sym, ap, ◌∙◌, subst, inl, inr}
use Rattle.cov_ast.specs.Plain.{plain}
use Rattle.cov_ast.specs.Syntax.{Parsed, Program}
use Rattle.flow_model.specs.Secure.{IsSecure}
use Rattle.refute.specs.Trials.{IsFirstTrial}
use Rattle.refute.proofs.FirstLaws.{first_trial_one}
use Rattle.refute.proofs.TrialLaws.{secure_not_found}
use Rattle.schedule_replay.specs.declared.replays.Found.{Found}
use Rattle.call_inputs.proofs.PlanLaws.{IsSoundReply}
use Rattle.call_judge.specs.Meaning.{meaning}
use Rattle.call_reports.specs.Replies.{Reply, status_of}
use Rattle.call_reports.specs.declared.answers.Status.TheVariants as s
use Rattle.policy_class.specs.Resolved.{resolved}
use Rattle.call_run.specs.Refutes.{RefutesWith, Refutes, reply_to_trials}

-- One reply ----------------------------------------------------------------------------------------------------

module _ (p : Program) (n : ℕ) where
  refuted_one : (reply other : Reply) → RefutesWith p n reply → RefutesWith p n other → reply ≡ other
  refuted_one reply other h k = h.is ∙ ap (reply_to_trials p n) (first_trial_one (plain p) n h.found k.found h.first k.first) ∙ sym k.is

  told_success : (found : Option (ℕ × Found)) → (status_of (reply_to_trials p n found) ≡ s.Done) ⊎ (status_of (reply_to_trials p n found) ≡ s.Differ)
  told_success None = inl refl
  told_success (Some r) = inr refl

  refuted_success : (reply : Reply) → RefutesWith p n reply → (status_of reply ≡ s.Done) ⊎ (status_of reply ≡ s.Differ)
  refuted_success reply h = subst (λ r. (status_of r ≡ s.Done) ⊎ (status_of r ≡ s.Differ)) (sym h.is) (told_success h.found)

pub refute_sound : (n : ℕ) (p : Parsed) → IsSoundReply (λ status. (status ≡ s.Done) ⊎ (status ≡ s.Differ)) (Refutes n p)
refute_sound n p = record {
  one = refuted_one (resolved p) n;
  success = refuted_success (resolved p) n;
}

-- Exactly where there is a first trial -------------------------------------------------------------------------

module _ (n : ℕ) (p : Parsed) (reply : Reply) where
  differs_found : (found : Option (ℕ × Found)) → IsFirstTrial (meaning p) n found → reply ≡ reply_to_trials (resolved p) n found → status_of reply ≡ s.Differ
      → (r : ℕ × Found) × IsFirstTrial (meaning p) n (Some r)
  differs_found None first is e = let wrong : s.Done ≡ s.Differ = sym (ap status_of is) ∙ e in cc
  differs_found (Some r) first is e = (r, first)

  -- the reply is that two runs differ exactly where there is a first trial
  pub differs_exactly : Refutes n p reply → (status_of reply ≡ s.Differ) ↔ ((r : ℕ × Found) × IsFirstTrial (meaning p) n (Some r))
  differs_exactly h = (
    differs_found h.found h.first h.is,
    λ there. ap status_of (h.is ∙ ap (reply_to_trials (resolved p) n) (first_trial_one (meaning p) n h.found (Some there.0) h.first there.1)),
  )

-- Accepted programs --------------------------------------------------------------------------------------------

-- No trial sets two runs of a secure program apart: no reply says that they differ.
pub refutes_never_differ : (n : ℕ) (p : Parsed) → IsSecure (meaning p) → (reply : Reply) → Refutes n p reply → status_of reply ≡ s.Differ → ⊥
refutes_never_differ n p secure reply h e =
    let none : h.found ≡ None = secure_not_found (meaning p) secure n h.found h.first in
    let wrong : s.Done ≡ s.Differ = sym (ap status_of (h.is ∙ ap (reply_to_trials (resolved p) n) none)) ∙ e in cc
