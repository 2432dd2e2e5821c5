-- Laws of two runs side by side: there is one reply, and that to an accepted program is never that they differ.
use Rattle.std.proofs.Common.{◌≡◌, ◌⊎◌, ℕ, List, length, Option, Some, None, refl, sym, ap, ◌∙◌, subst, inl, inr}
use Rattle.std.proofs.lemmas.List.{length-map}
use Rattle.cov_ast.specs.Plain.{plain, plain_thread}
use Rattle.cov_ast.specs.Syntax.{Parsed, Program}
use Rattle.cov_expr.specs.Words.{IsMemory, IsSchedule}
use Rattle.flow_model.proofs.Decided.{none_is_fit}
use Rattle.flow_model.specs.Agreement.{AreFitStarts}
use Rattle.flow_model.specs.FirstDifference.{first_bad_start}
use Rattle.flow_model.specs.Secure.{IsSecure}
use Rattle.flow_model.specs.Source.{begin}
use Rattle.flow_model.specs.declared.start.BadStart.{BadStart}
use Rattle.policy_class.specs.Resolved.{lock_id, resolved, resolved_thread, resolved_variable, var_id}
use Rattle.refute.proofs.FirstLaws.{found_one, together_or_apart}
use Rattle.schedule_replay.specs.Replays.{IsFirstStepApart}
use Rattle.schedule_replay.specs.declared.replays.Found.{Found}
use Rattle.replay_inputs.specs.Inputs.{PairInput}
use Rattle.call_inputs.specs.Rejections.{UnlessRejected}
use Rattle.call_inputs.proofs.PlanLaws.{IsSoundReply}
use Rattle.schedule_replay.proofs.ApartLaws.{secure_not_apart}
use Rattle.call_judge.specs.Meaning.{meaning}
use Rattle.call_judge.specs.Starts.{unfit_by, unfit_starts}
use Rattle.call_reports.specs.Differences.{differ_text}
use Rattle.call_reports.specs.Replies.{Reply, differ, status_of}
use Rattle.call_reports.specs.declared.answers.Status.TheVariants as s
use Rattle.call_run.specs.Pairs.{Pairs, RunApart, RunTogether, RunsFit}

-- One reply ----------------------------------------------------------------------------------------------------

module _ (p : Program) (left right schedule : List ℕ) where
  fit_one : (reply other : Reply) → RunsFit p left right schedule reply → RunsFit p left right schedule other → reply ≡ other
  fit_one reply other (inl h) (inl k) = h.is ∙ sym k.is
  fit_one reply other (inl h) (inr k) =
      absurd (together_or_apart (plain p) (begin (plain p) left) (begin (plain p) right) schedule k.found h.agree k.first)
  fit_one reply other (inr h) (inl k) =
      absurd (together_or_apart (plain p) (begin (plain p) left) (begin (plain p) right) schedule h.found k.agree h.first)
  fit_one reply other (inr h) (inr k) =
      h.is ∙ ap (λ f. differ f.step (differ_text p f.differ))
      (found_one (plain p) (begin (plain p) left) (begin (plain p) right) schedule h.found k.found h.first k.first) ∙ sym k.is

  fit_success : (reply : Reply) → RunsFit p left right schedule reply → (status_of reply ≡ s.Done) ⊎ (status_of reply ≡ s.Differ)
  fit_success reply (inl h) = inl (ap status_of h.is)
  fit_success reply (inr h) = inr (ap status_of h.is)

pub pair_sound : (i : PairInput) → IsSoundReply (λ status. (status ≡ s.Done) ⊎ (status ≡ s.Differ)) (Pairs i)
pair_sound i = record {
  one = fit_one (resolved i.program) i.left i.right i.schedule;
  success = fit_success (resolved i.program) i.left i.right i.schedule;
}

-- Starts -------------------------------------------------------------------------------------------------------

-- nothing rejects starts of which nothing says that they aren't fit
none_unfit : (p : Program) (o : Option BadStart) → unfit_by p o ≡ None → o ≡ None
none_unfit p None h = refl
none_unfit p (Some found) h = cc

-- starts that nothing rejects are fit
pub are_fit : (p : Parsed) (left right : List ℕ) → unfit_starts p left right ≡ None → AreFitStarts (meaning p) left right
are_fit p left right h =
    let none : first_bad_start (meaning p) left right ≡ None = none_unfit (resolved p) (first_bad_start (meaning p) left right) h in
    (none_is_fit (meaning p) left right None (sym none)).0 refl

-- what is replied to two runs of a program is replied to those of the text that it is of
pub program_pairs : (p : Parsed) (program : Program) (left right schedule : List ℕ) (reply : Reply) → program ≡ resolved p
    → UnlessRejected (unfit_by program (first_bad_start (plain program) left right)) (RunsFit program left right schedule) reply
    → UnlessRejected (unfit_starts p left right) (RunsFit (resolved p) left right schedule) reply
program_pairs p program left right schedule reply is h =
    subst (λ q. UnlessRejected (unfit_by q (first_bad_start (plain q) left right)) (RunsFit q left right schedule) reply) is h

-- Accepted programs --------------------------------------------------------------------------------------------

-- Two runs of a secure program from fit starts never differ: of what a reading took, no reply says that they do.
module _ (p : Parsed) (left right schedule : List ℕ) (secure : IsSecure (meaning p)) (l : IsMemory (length p.vars) left) (r : IsMemory (length p.vars) right)
    (threads : IsSchedule (length p.threads) schedule) (fit : unfit_starts p left right ≡ None) where
  never_apart : (found : Found) → IsFirstStepApart (meaning p) (begin (meaning p) left) (begin (meaning p) right) schedule found → ⊥
  never_apart found first =
      let vars : length (meaning p).vars ≡ length p.vars = length-map p.vars (resolved_variable (var_id p) (lock_id p)) in
      let counted : length (meaning p).threads ≡ length p.threads =
      length-map (resolved p).threads plain_thread ∙ length-map p.threads (resolved_thread (var_id p) (lock_id p)) in
      secure_not_apart (meaning p) left right schedule found secure (subst (λ n. IsMemory n left) (sym vars) l) (subst (λ n. IsMemory n right) (sym vars) r)
      (are_fit p left right fit) (subst (λ n. IsSchedule n schedule) (sym counted) threads) first

  pub pairs_never_differ : (reply : Reply) → RunsFit (resolved p) left right schedule reply → status_of reply ≡ s.Differ → ⊥
  pairs_never_differ reply (inl h) e = let wrong : s.Done ≡ s.Differ = sym (ap status_of h.is) ∙ e in cc
  pairs_never_differ reply (inr h) e = never_apart h.found h.first
