-- Laws of replies by code: what is rejected is rejected as it is by a check, and two runs of the code of what is accepted, from fit starts,
-- never differ.
use Rattle.std.specs.Prelude.{MatchOption}
use Rattle.std.proofs.Common.{◌≡◌, ℕ, zero, suc, List, true, false, is_some, Option, Some, None, Result, Err, sym, ap, ◌∙◌, subst, length, map, replicate, take, arith}
use Rattle.std.proofs.lemmas.List.{length-map, length-replicate}
use Rattle.std.proofs.lemmas.List.Elements.{All-replicate}
use Rattle.compiled_code.specs.Compiled.{compiled}
use Rattle.compiled_code.specs.GoodCode.{IsGoodCode}
use Rattle.compiled_code.specs.Matches.{AreRegisters, HasNamesOf}
use Rattle.compiled_code.specs.SecureCode.{IsSecureCode}
use Rattle.cov_ast.specs.Plain.{plain, plain_thread}
use Rattle.cov_ast.specs.Syntax.{Parsed, Program, Var, Lock, Thread}
use Rattle.cov_ast.specs.View as view
use Rattle.cov_ast.specs.declared.decl.Program as d
use Rattle.cov_ast.specs.declared.parsed.Parsed as read
use Rattle.cov_expr.specs.Words.{AreWords, IsMemory, IsSchedule}
use Rattle.flow_model.specs.Agreement.{AreFitStarts}
use Rattle.flow_model.specs.Secure.{IsSecure}
use Rattle.policy_class.specs.Resolved.{lock_id, resolved, resolved_thread, resolved_variable, var_id}
use Rattle.risc_machine.specs.Machine.{CodeState}
use Rattle.risc_machine.specs.declared.parts.Parts.{Parts}
use Rattle.risc_machine.specs.declared.parts.ThreadCode.{ThreadCode}
use Rattle.schedule_replay.specs.CodeReplays.{CodeAgreesThroughout, DeclaresAsMany, IsFirstCodeStepApart}
use Rattle.schedule_replay.specs.declared.replays.Found.{Found}
use Rattle.typing_law.specs.Accepted.{IsAccepted}
use Rattle.call_code.specs.Codes.{Compiles, cleared, code_of, code_start}
use Rattle.call_code.specs.Inside.{IsCodeOf, IsOfText, Rejects}
use Rattle.call_code.specs.declared.codes.Coded.{Coded}
use Rattle.call_inputs.proofs.PlanLaws.{IsSoundReply}
use Rattle.call_inputs.specs.Rejections.{Rejection, UnlessRejected, rejected}
use Rattle.schedule_replay.proofs.ApartLaws.{schedule_front}
use Rattle.call_judge.specs.Check.{rejection, totals}
use Rattle.call_reports.proofs.AnswerLaws.{gets_onward, stops_onward}
use Rattle.call_reports.specs.AnswerViews.{Gets, Stops}
use Rattle.call_reports.specs.Replies.{Reply, status_of}
use Rattle.call_reports.specs.declared.answers.Answer.{Answer}
use Rattle.call_reports.specs.declared.answers.Status.TheVariants as s
use Rattle.call_reports.specs.declared.answers.Stop.{Stop}
use Rattle.call_reports.specs.declared.answers.Totals.{Totals}

-- Rejections ---------------------------------------------------------------------------------------------------

module _ (o : Option Rejection) (may_reply : Reply → Type 0) where
  -- what is rejected is replied so
  pub gets_rejected : (stop : Stop) → Stops (Rejects o) stop → Gets (UnlessRejected o may_reply) (Err stop)
  gets_rejected stop h = stops_onward (Rejects o) (UnlessRejected o may_reply) stop each h
    where
      each : (reply : Reply) → Rejects o reply → UnlessRejected o may_reply reply
      each reply (q, e, is) = subst (λ r. UnlessRejected r may_reply reply) (sym e) is

  -- what isn't rejected is replied to
  pub gets_accepted : o ≡ None → (r : Result Answer Stop) → Gets may_reply r → Gets (UnlessRejected o may_reply) r
  gets_accepted e r h = gets_onward may_reply (UnlessRejected o may_reply) r (λ reply k. subst (λ q. UnlessRejected q may_reply reply) (sym e) k) h

-- Accepted programs --------------------------------------------------------------------------------------------

-- what is answered to an accepted program with its code is the reply to its text
pub by_code : (p : Parsed) (coded : Coded) → IsOfText p coded → (may_reply : Program → Parts → Reply → Type 0) (r : Result Answer Stop)
    → Gets (may_reply (view.program coded.program) coded.code) r → Gets (UnlessRejected (rejection p) (may_reply (resolved p) (code_of p))) r
by_code p coded of may_reply r h =
    let code_is : coded.code ≡ code_of p = of.good.code.is ∙ ap compiled of.is in
    gets_accepted (rejection p) (may_reply (resolved p) (code_of p)) of.accepted r
    (subst (λ c. Gets (may_reply (resolved p) c) r) code_is (subst (λ q. Gets (may_reply q coded.code) r) of.is h))

-- a program has as many variables and threads as the text that it stands for
module _ (parsed : read.Parsed) (program : d.Program) (is : view.program program ≡ resolved (view.parsed parsed)) where
  pub as_many_variables : length program.vars ≡ length parsed.vars
  as_many_variables =
      sym (length-map program.vars view.var) ∙ ap (λ (q : Program). length q.vars) is
      ∙ length-map (map view.var parsed.vars) (resolved_variable (var_id (view.parsed parsed)) (lock_id (view.parsed parsed))) ∙ length-map parsed.vars view.var

  pub as_many_threads : length program.threads ≡ length parsed.threads
  as_many_threads =
      sym (length-map program.threads view.thread) ∙ ap (λ (q : Program). length q.threads) is
      ∙ length-map (map view.thread parsed.threads) (resolved_thread (var_id (view.parsed parsed)) (lock_id (view.parsed parsed))) ∙ length-map parsed.threads view.thread

-- code with the names of a program has as many
declares_as_many : (p : d.Program) (c : Parts) → HasNamesOf (view.program p) c → DeclaresAsMany c p
declares_as_many p c names = record {
  vars = ap length names.vars ∙ length-map (map view.var p.vars) (λ (v : Var). v.name) ∙ length-map p.vars view.var;
  locks = ap length names.locks ∙ length-map (map view.lock p.locks) (λ (l : Lock). l.name) ∙ length-map p.locks view.lock;
  threads =
      sym (length-map c.threads (λ (t : ThreadCode). t.name)) ∙ ap length names.threads ∙ length-map (map view.thread p.threads) (λ (t : Thread). t.name)
      ∙ length-map p.threads view.thread;
}

-- the code of the program of a verdict, which is the one that was checked
pub made_code : (p q : d.Program) (c : Parts) (checked : Totals) → q ≡ p → IsAccepted (view.program p) → IsSecure (plain (view.program p))
    → c ≡ compiled (view.program q) → IsGoodCode (view.program q) c
    → checked ≡ totals (view.program q) → IsCodeOf p c checked
made_code p q c checked same holds secure is good counted =
    let here : IsGoodCode (view.program p) c = subst (λ r. IsGoodCode (view.program r) c) same good in
    record {
      is = is ∙ ap (λ r. compiled (view.program r)) same;
      declared = declares_as_many p c here.matches.names;
      holds = holds;
      secure = secure;
      good = here;
      counted = counted ∙ ap (λ r. totals (view.program r)) same;
    }

-- Registers ----------------------------------------------------------------------------------------------------

zero_words : (n : ℕ) → AreWords (replicate n 0)
zero_words zero = tt
zero_words (suc n) = (grind arith, zero_words n)

cleared_registers : (n : ℕ) → AreRegisters n (cleared n)
cleared_registers n = record {
  complete = length-replicate n (replicate 8 0);
  eight = All-replicate (λ row. (length row ≡ 8) × AreWords row) n (replicate 8 0) (length-replicate {A = ℕ} 8 0, zero_words 8);
}

-- Two runs -----------------------------------------------------------------------------------------------------

-- two runs of secure code from fit starts are never apart
secure_codes_not_apart : (p : d.Program) (c : Parts) (left right schedule : List ℕ) (f : Found) → DeclaresAsMany c p → IsSecureCode (plain (view.program p)) c
    → IsMemory (length p.vars) left → IsMemory (length p.vars) right → AreFitStarts (plain (view.program p)) left right → IsSchedule (length p.threads) schedule
    → IsFirstCodeStepApart p c (code_start c left) (code_start c right) schedule f → ⊥
secure_codes_not_apart p c left right schedule f declared secure l r fit threads h =
    let q = plain (view.program p) in
    let vars : length q.vars ≡ length p.vars = length-map p.vars view.var in
    let all : length q.threads ≡ length p.threads = length-map (map view.thread p.threads) plain_thread ∙ length-map p.threads view.thread in
    let rows : AreRegisters (length q.threads) (cleared (length c.threads)) =
    subst (λ n. AreRegisters n (cleared (length c.threads))) (declared.threads ∙ sym all) (cleared_registers (length c.threads)) in
    h.apart (secure left right (subst (λ n. IsMemory n left) (sym vars) l) (subst (λ n. IsMemory n right) (sym vars) r) fit (cleared (length c.threads)) (cleared (length c.threads)) rows rows
    (take f.step schedule) (schedule_front (length q.threads) f.step schedule (subst (λ n. IsSchedule n schedule) (sym all) threads)))

-- so two machines of it that run side by side are never found apart
pub codes_not_apart : (p : d.Program) (c e : Parts) (s1 s2 : CodeState) (left right schedule : List ℕ) (o : Option Found) → e ≡ c → s1 ≡ code_start c left
    → s2 ≡ code_start c right → DeclaresAsMany c p → IsSecureCode (plain (view.program p)) c → IsMemory (length p.vars) left → IsMemory (length p.vars) right
    → AreFitStarts (plain (view.program p)) left right → IsSchedule (length p.threads) schedule
    → MatchOption o (CodeAgreesThroughout (plain (view.program p)) e s1 s2 schedule) (λ f. IsFirstCodeStepApart p e s1 s2 schedule f) → is_some o ≡ true → ⊥
codes_not_apart p c e s1 s2 left right schedule None same first second declared secure l r fit threads found some = let wrong : false ≡ true = some in cc
codes_not_apart p c e s1 s2 left right schedule (Some f) same first second declared secure l r fit threads found some =
    secure_codes_not_apart p c left right schedule f declared secure l r fit threads
    (subst (λ s. IsFirstCodeStepApart p c (code_start c left) s schedule f) second
    (subst (λ s. IsFirstCodeStepApart p c s s2 schedule f) first (subst (λ q. IsFirstCodeStepApart p q s1 s2 schedule f) same found)))

-- Replies ------------------------------------------------------------------------------------------------------

pub compile_sound : (p : Parsed) → IsSoundReply (λ status. status ≡ s.Done) (Compiles p)
compile_sound p = record { one = λ reply other h k. h.is ∙ sym k.is; success = λ reply h. ap status_of h.is }
