-- What the call of `check` alone promises.
use Rattle.std.proofs.Common.{◌≡◌, ◌⊎◌, ℕ, List, Option, Some, None, Result, Err, IfSome, ◌≤◌, length, refl, sym, ◌∙◌, subst, inl, inr}
use Rattle.cov_expr.specs.declared.limits.TheConstants.{MOST_BYTES}
use Rattle.cov_ast.specs.Syntax.{Parsed}
use Rattle.cov_grammar.specs.PlacedTrees as trees
use Rattle.cov_io.specs.Counters.{Rose}
use Rattle.cov_io.specs.Shelves.{File, Passes, Shelved, held}
use Rattle.cov_io.specs.Sinks.{Sunk}
use Rattle.cov_text.specs.Text.{program_of}
use Rattle.flow_model.specs.Secure.{IsSecure}
use Rattle.call_inputs.specs.Plans.{CarriesOut, EndsAt, GetsAt, IsMet, LacksMemory, Performs, Plan, RepliesOver, asks}
use Rattle.call_inputs.specs.Programs.{SpellsProgram, SpellsTree}
use Rattle.call_inputs.specs.Readings.{End, Takes, lacks, stops, took}
use Rattle.call_judge.specs.Check.{IsAcceptedText, accepted_program, verdict}
use Rattle.call_judge.specs.Meaning.{AreNamesInOrder, meaning}
use Rattle.call_reports.specs.AnswerViews.{Gets}
use Rattle.call_reports.specs.Ends.{Ends}
use Rattle.call_reports.specs.Replies.{Reply}
use Rattle.call_reports.specs.declared.answers.Answer.{Answer}
use Rattle.call_reports.specs.declared.answers.Status.{Status}
use Rattle.call_reports.specs.declared.answers.Status.TheVariants as s
use Rattle.call_reports.specs.declared.answers.Stop.{Stop}
use Rattle.call_reports.specs.declared.answers.Stop.TheVariants as stop
use Rattle.check_call.specs.Checking.{Asked, asked_by, check, nothing, plan_for, plan_of}
use Rattle.check_call.specs.Secured.{HoldsSecure}
use Rattle.call_inputs.proofs.PlanLaws.{IsResult, IsSound, Puts, one_sound, performs_exact, performs_fault, performs_met, performs_passes, performs_took}
use Rattle.call_inputs.proofs.ReadingLaws.{Reliable, reads_onward}
use Rattle.call_inputs.proofs.TextLaws.{program_reading}
use Rattle.call_judge.proofs.CheckLaws.{names_hold, not_rejected}
use Rattle.call_reports.proofs.EndLaws.{ends_onward}

-- What is promised of accepted programs ------------------------------------------------------------------------

-- a law of what bytes spell and is accepted
abbrev pub OfAccepted : (Parsed → Type 0) → Type 0
OfAccepted Holds = (bytes : List ℕ) (p : Parsed) → length bytes ≤ MOST_BYTES → SpellsProgram bytes p → IsAcceptedText p → Holds p

-- the program of a file that is taken as accepted, and is told so
pub taken_secure : OfAccepted (λ p. IsSecure (meaning p)) → (old new : Sunk) (status : Status) (name : List ℕ) (files : List File)
    → Takes files (λ p. Puts (λ reply. reply ≡ verdict p) old new status) (accepted_program name)
    → (bytes : List ℕ) × (held files name ≡ Some bytes) × (tree : trees.Program) × SpellsTree bytes tree
    × AreNamesInOrder (program_of bytes tree) × IsSecure (meaning (program_of bytes tree))
taken_secure is_secure old new status name files (bytes, at, fits, (p, spells, (none, puts))) =
    let accepted = not_rejected p none in (
      bytes,
      at,
      spells.0,
      spells.1,
      subst AreNamesInOrder spells.2 (names_hold p accepted),
      subst (λ q. IsSecure (meaning q)) spells.2 (is_secure bytes p fits spells accepted),
    )

-- a fact on the files that a shelf tells
pub if_told : (told : Option (List File)) (P : List File → Type 0) → ((files : List File) → told ≡ Some files → P files) → IfSome told P
if_told None P each = tt
if_told (Some files) P each = each files refl

-- the plan of words is sound
done_result : (status : Status) → status ≡ s.Done → IsResult status
done_result status e = subst IsResult (sym e) tt

sound : (asked : Asked) → IsSound (λ status. status ≡ s.Done) (plan_of asked)
sound (check name) = ((program_reading, λ p. tt), λ p. one_sound (verdict p) refl)
sound nothing = (tt, λ x. record { one = λ reply other h k. absurd h; success = λ reply h. absurd h })

-- What the code does -------------------------------------------------------------------------------------------

module _ (before after : Shelved) (old new : Sunk) where
  -- a step that gives an answer, and a call that ends with it
  pub answered : (plan : Plan) (r : Result Answer Stop) (reply : Reply) (status : Status) → CarriesOut before after plan r → (LacksMemory r → ⊥)
      → ((may_reply : Reply → Type 0) → Gets may_reply r → may_reply reply) → Ends (λ q. q ≡ reply) old new status
      → Performs before after old new plan status
  answered (asks reading may_reply due) r reply status carried not_lacks gets ends =
      reads_onward (λ shelf end. (shelf ≡ after) × GetsAt may_reply end r) (λ shelf end. (shelf ≡ after) × EndsAt may_reply old new status end) each before reading carried
    where
      at : (end : End _) → GetsAt may_reply end r → EndsAt may_reply old new status end
      at (took x) h = ends_onward (λ q. q ≡ reply) (may_reply x) old new status (λ q e. subst (may_reply x) (sym e) (gets (may_reply x) h)) ends
      at (stops other) h = ends_onward (λ q. q ≡ reply) (λ q. q ≡ other) old new status (λ q e. e ∙ gets (λ q. q ≡ other) h) ends
      at lacks h = absurd (not_lacks h)

      each : (shelf : Shelved) (end : End _) → (shelf ≡ after) × GetsAt may_reply end r → (shelf ≡ after) × EndsAt may_reply old new status end
      each shelf end h = (h.0, at end h.1)

  -- a step that ends for want of memory
  pub lacking : (plan : Plan) → CarriesOut before after plan (Err stop.NoMemory) → new ≡ old → Performs before after old new plan s.NoMemory
  lacking (asks reading may_reply due) carried same =
      reads_onward (λ shelf end. (shelf ≡ after) × GetsAt may_reply end (Err stop.NoMemory)) (λ shelf end. (shelf ≡ after) × EndsAt may_reply old new s.NoMemory end) each before
      reading carried
    where
      at : (end : End _) → EndsAt may_reply old new s.NoMemory end
      at (took x) = same
      at (stops other) = same
      at lacks = (refl, same)

      each : (shelf : Shelved) (end : End _) → (shelf ≡ after) × GetsAt may_reply end (Err stop.NoMemory) → (shelf ≡ after) × EndsAt may_reply old new s.NoMemory end
      each shelf end h = (h.0, at end)

-- A call -------------------------------------------------------------------------------------------------------

module _ (before after : Shelved) (words : List (List ℕ)) (old new : Sunk) (status : Status) (performs : Performs before after old new (plan_for words) status) where
  pub call_exact : Reliable before after → IfSome before.told (λ files. Ends (RepliesOver files (plan_for words)) old new status)
  call_exact reliable = if_told before.told (λ files. Ends (RepliesOver files (plan_for words)) old new status)
      (λ files told. performs_exact before after old new status files (plan_for words) told reliable performs)

  pub call_secure : OfAccepted (λ p. IsSecure (meaning p)) → status ≡ s.Done → IfSome before.told (λ files. HoldsSecure files words)
  call_secure is_secure done = if_told before.told (λ files. HoldsSecure files words) holds
    where
      holds : (files : List File) → before.told ≡ Some files → HoldsSecure files words
      holds files told name is =
          taken_secure is_secure old new status name files (performs_took before after old new status files (accepted_program name) (λ p reply. reply ≡ verdict p) (λ p. 0) told
          (subst IsResult (sym done) tt) (subst (λ ws. Performs before after old new (plan_for ws) status) is performs))

  pub call_fault : status ≡ s.ReadFault → Rose before.faults after.faults
  call_fault fault = performs_fault before after old new status (λ status. status ≡ s.Done) done_result (plan_for words) (sound (asked_by words)) fault performs

  pub call_passes : Passes before after
  call_passes = performs_passes before after old new status (plan_for words) performs

  pub call_complete : (status ≡ s.WriteFault → Rose old.faults new.faults) → ¬ Rose before.faults after.faults → ¬ Rose old.faults new.faults
      → IfSome before.told (λ files. IsMet files (plan_for words) → (status ≡ s.Done) ⊎ (status ≡ s.NoMemory))
  call_complete rose quiet written = if_told before.told (λ files. IsMet files (plan_for words) → (status ≡ s.Done) ⊎ (status ≡ s.NoMemory)) met
    where
      by : (status ≡ s.NoMemory) ⊎ (status ≡ s.WriteFault) ⊎ (status ≡ s.Done) → (status ≡ s.Done) ⊎ (status ≡ s.NoMemory)
      by (inl e) = inr e
      by (inr (inl e)) = absurd (written (rose e))
      by (inr (inr e)) = inl e

      met : (files : List File) → before.told ≡ Some files → IsMet files (plan_for words) → (status ≡ s.Done) ⊎ (status ≡ s.NoMemory)
      met files told all = by (performs_met before after old new status (λ status. status ≡ s.Done) files (plan_for words) (sound (asked_by words)) told (inr quiet) all performs)
