-- Laws of runs, also of those that stop where an expression holds: the obligations of declarations, and what is replied.
use Rattle.std.proofs.Common.{◌≡◌, ℕ, ◌<◌, ◌≤◌, List, [], ◌++◌, Bool, Option, Some, None, Result, cond, length, take, inl, inr, refl, sym, ap, ◌∙◌, subst, arith}
use Rattle.std.proofs.lemmas.List.{length-map}
use Rattle.std.specs.Cmp.{both_ways}
use Rattle.cov_ast.specs.Obligations.{first_false, Decides}
use Rattle.cov_ast.specs.Plain.{plain}
use Rattle.cov_ast.specs.Syntax.{Parsed, Program}
use Rattle.cov_ast.specs.View as view
use Rattle.cov_ast.specs.declared.decl.Program as code
use Rattle.cov_ast.specs.declared.parsed.Parsed as read
use Rattle.cov_ast.specs.declared.refusal.CheckFault.{CheckFault}
use Rattle.cov_ast.proofs.ObligationLaws.{append_decided, none_refused}
use Rattle.cov_expr.specs.Entailment.{Holds}
use Rattle.cov_expr.specs.Term.{Term}
use Rattle.cov_expr.specs.Words.{IsMemory, IsSchedule}
use Rattle.cov_expr.specs.declared.limits.TheConstants.{MOST_ENTRIES}
use Rattle.flow_model.specs.Source.{Run, begin, stayed_from}
use Rattle.mode_compat.specs.Declared.{declaration_obligations}
use Rattle.policy_class.specs.Resolved.{lock_id, name_obligations, resolved, resolved_thread, resolved_variable, var_id}
use Rattle.refute.proofs.FirstLaws.{same_number}
use Rattle.schedule_replay.specs.Replays.{StopsAt, after_steps}
use Rattle.schedule_replay.specs.declared.replays.Until.{Until}
use Rattle.replay_inputs.specs.Inputs.{RunInput}
use Rattle.replay_inputs.specs.InputViews.{IsRunOf}
use Rattle.call_inputs.specs.Rejections.{UnlessRejected}
use Rattle.call_inputs.proofs.PlanLaws.{IsSoundReply, one_sound}
use Rattle.call_reports.specs.Replies.{Reply, ran, status_of}
use Rattle.call_reports.specs.declared.answers.Status.TheVariants as s
use Rattle.call_run.specs.Inside.{IsDeclared}
use Rattle.call_run.specs.Runs.{Runs, RunsTo, RunsUntil, UntilInput, declared_obligations, declared_rejection, declared_rejection_by, report_on_run, report_until}

-- Declarations -------------------------------------------------------------------------------------------------

-- where the names are in order, the program decides
pub declarations_decided : (p : Parsed) (program : Program) (r : Result (Unit {0}) CheckFault) → program ≡ resolved p → first_false (name_obligations p) ≡ None
    → Decides (declaration_obligations program) r → Decides (declared_obligations p) r
declarations_decided p program r is named h =
    subst (λ es. Decides es r)
    (ap (λ q. name_obligations p ++ declaration_obligations q) is
    ∙ ap (λ b. name_obligations p ++ cond b (declaration_obligations (resolved p)) []) (sym (none_refused (name_obligations p) named)))
    (append_decided (name_obligations p) (declaration_obligations program) r named h)

module _ (p : Parsed) (may_reply : Reply → Type 0) where
  -- what is declared isn't rejected
  pub declared_replied : (program : Program) (reply : Reply) → IsDeclared p program → may_reply reply → UnlessRejected (declared_rejection p) may_reply reply
  declared_replied program reply declared h = subst (λ o. UnlessRejected (declared_rejection_by o) may_reply reply) (sym declared.held) h

-- A whole schedule ---------------------------------------------------------------------------------------------

pub run_sound : (i : RunInput) → IsSoundReply (λ status. status ≡ s.Done) (Runs i)
run_sound i = one_sound (ran (report_on_run (resolved i.program) i.memory i.schedule)) refl

-- Until an expression holds ------------------------------------------------------------------------------------

module _ (e : Term) (r : Run) (schedule : List ℕ) where
  -- a run doesn't stop later than where the expression holds
  not_later : (u v : Until) → StopsAt e r schedule u → StopsAt e r schedule v → u.steps < v.steps → ⊥
  not_later u v h k l =
      let end = h.missed (λ hit. k.earlier u.steps l (h.hit.0 hit)) in
      omega (arith, end, k.within, l)

  steps_one : (u v : Until) → StopsAt e r schedule u → StopsAt e r schedule v → u.steps ≡ v.steps
  steps_one u v h k = same_number u.steps v.steps (not_later u v h k) (not_later v u k h)

  stop_one : (u v : Until) → StopsAt e r schedule u → StopsAt e r schedule v → u ≡ v
  stop_one u v h k =
      let steps = steps_one u v h k in
      let stayed = h.stayed ∙ ap (λ n. stayed_from r (take n schedule)) steps ∙ sym k.stayed in
      let made : ℕ → ℕ → Bool → Until = λ n m b. record { steps = n; stayed = m; hit = b } in
      let hit = both_ways u.hit v.hit
      (λ t. k.hit.1 (subst (λ n. Holds e (after_steps r schedule n).memory) steps (h.hit.0 t)))
      (λ t. h.hit.1 (subst (λ n. Holds e (after_steps r schedule n).memory) (sym steps) (k.hit.0 t))) in
      ap (λ n. made n u.stayed u.hit) steps ∙ ap (λ n. made v.steps n u.hit) stayed ∙ ap (λ b. made v.steps v.stayed b) hit

to_one : (p : Program) (memory schedule : List ℕ) (e : Term) (reply other : Reply) → RunsTo p memory schedule e reply → RunsTo p memory schedule e other → reply ≡ other
to_one p memory schedule e reply other h k =
    h.is ∙ ap (λ stop. ran (report_until p memory schedule stop)) (stop_one e (begin (plain p) memory) schedule h.stop k.stop h.stops k.stops) ∙ sym k.is

pub until_sound : (i : UntilInput) → IsSoundReply (λ status. status ≡ s.Done) (RunsUntil i)
until_sound i = record {
  one = to_one (resolved i.run.program) i.run.memory i.run.schedule i.expression;
  success = λ reply h. ap status_of h.is;
}

-- Counts -------------------------------------------------------------------------------------------------------

-- a program has as many variables and as many threads as its text
module _ (parsed : read.Parsed) (program : code.Program) (is : view.program program ≡ resolved (view.parsed parsed)) where
  pub same_vars : length parsed.vars ≡ length program.vars
  same_vars =
      let p = view.parsed parsed in
      sym (length-map parsed.vars view.var) ∙ sym (length-map p.vars (resolved_variable (var_id p) (lock_id p))) ∙ sym (ap (λ q. length q.vars) is)
      ∙ length-map program.vars view.var

  pub same_threads : length parsed.threads ≡ length program.threads
  same_threads =
      let p = view.parsed parsed in
      sym (length-map parsed.threads view.thread) ∙ sym (length-map p.threads (resolved_thread (var_id p) (lock_id p))) ∙ sym (ap (λ q. length q.threads) is)
      ∙ length-map program.threads view.thread

  -- what is of a text is of its program
  pub is_run_of : (memory schedule entries : List ℕ) → schedule ≡ entries → IsMemory (length parsed.vars) memory → IsSchedule (length parsed.threads) entries
      → length entries ≤ MOST_ENTRIES → IsRunOf program memory schedule
  is_run_of memory schedule entries same m threads few = subst (IsRunOf program memory) (sym same) (record {
    fits = subst (λ n. IsMemory n memory) same_vars m;
    threads = subst (λ n. IsSchedule n entries) same_threads threads;
    few = few;
  })
