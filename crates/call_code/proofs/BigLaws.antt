-- Laws of `big`: its starts are those of the text, and two runs of an accepted program from fit starts never differ.
use Rattle.std.specs.Prelude.{MatchOption, codes}
use Rattle.std.specs.Str.{bytes_eq}
use Rattle.std.proofs.Common.{◌≡◌, ◌<◌, ◌^◌, ℕ, List, [], ◌∷◌, Bool, true, false, is_some, cond, Option, Some, None, Result, refl, sym, ap, ◌∙◌, subst, length, map, arith}
use Rattle.std.proofs.lemmas.List.{length-map}
use Rattle.cov_ast.specs.Plain.{plain, plain_thread}
use Rattle.cov_ast.specs.Syntax.{Parsed, Program, Var}
use Rattle.cov_ast.specs.View as view
use Rattle.cov_ast.specs.declared.decl.Program as d
use Rattle.cov_ast.specs.declared.decl.VarDecl.{VarDecl}
use Rattle.cov_expr.specs.Words.{AreWords, IsMemory, IsSchedule, IsWord}
use Rattle.flow_model.specs.Agreement.{AreFitStarts}
use Rattle.flow_model.specs.FirstDifference.{first_bad_start}
use Rattle.flow_model.specs.Secure.{IsSecure}
use Rattle.flow_model.specs.Source.{Run, begin}
use Rattle.policy_class.specs.Resolved.{lock_id, resolved, resolved_variable, var_id}
use Rattle.risc_machine.specs.declared.parts.Parts.{Parts}
use Rattle.schedule_replay.specs.Replays.{AgreeThroughout, IsFirstStepApart}
use Rattle.schedule_replay.specs.declared.replays.Found.{Found}
use Rattle.call_code.specs.BigReplies.{AllRunTogether, SumsUp, start_with, starts_with_secrets}
use Rattle.call_code.specs.Codes.{code_of}
use Rattle.call_code.specs.Inside.{IsOfText}
use Rattle.call_code.specs.declared.codes.Coded.{Coded}
use Rattle.call_inputs.proofs.PlanLaws.{IsSoundReply}
use Rattle.replay_inputs.specs.Inputs.{PairInput}
use Rattle.call_inputs.specs.Rejections.{UnlessRejected}
use Rattle.schedule_replay.proofs.ApartLaws.{secure_not_apart}
use Rattle.call_judge.specs.Check.{rejection}
use Rattle.call_judge.specs.Starts.{unfit_by, unfit_starts}
use Rattle.call_reports.specs.AnswerViews.{Gets}
use Rattle.call_reports.specs.Replies.{Reply, status_of}
use Rattle.call_reports.specs.declared.answers.Answer.{Answer}
use Rattle.call_reports.specs.declared.answers.Status.TheVariants as s
use Rattle.call_reports.specs.declared.answers.Stop.{Stop}
use Rattle.call_code.proofs.CodeLaws.{by_code}

-- Starts -------------------------------------------------------------------------------------------------------

start_words : (word : ℕ) → IsWord word → (vars : List Var) → AreWords (start_with word vars)
start_words word small [] = tt
start_words word small (v ∷ vs) = (by (bytes_eq v.name (codes "k")), start_words word small vs)
  where
    by : (b : Bool) → cond b word 0 < 2 ^ 32
    by true = small
    by false = omega arith

-- a start of declarations has a word for each
pub start_is_memory : (word : ℕ) → IsWord word → (vars : List VarDecl) → IsMemory (length vars) (start_with word (map view.var vars))
start_is_memory word small vars = record {
  complete = length-map (map view.var vars) (λ v. cond (bytes_eq v.name (codes "k")) word 0) ∙ length-map vars view.var;
  words = start_words word small (map view.var vars);
}

-- a program has the starts of the text that it stands for
same_starts : (word : ℕ) (p : Parsed) (vars : List Var) → start_with word (map (resolved_variable (var_id p) (lock_id p)) vars) ≡ start_with word vars
same_starts word p [] = refl
same_starts word p (v ∷ vs) = ap (λ ws. cond (bytes_eq v.name (codes "k")) word 0 ∷ ws) (same_starts word p vs)

-- what the runs of a program from these starts, and of a code, are answered
abbrev pub SumsUpProgram : (rounds : ℕ) (schedule : List ℕ) → Program → Parts → (left right : List ℕ) → Reply → Type 0
SumsUpProgram rounds schedule q c left right =
    UnlessRejected (unfit_by q (first_bad_start (plain q) left right)) (AllRunTogether rounds q c left right schedule)

pub big_by_code : (rounds : ℕ) (schedule : List ℕ) (p : Parsed) (coded : Coded) → IsOfText p coded → (r : Result Answer Stop)
    → Gets (SumsUpProgram rounds schedule (view.program coded.program) coded.code (start_with 1 (view.program coded.program).vars) (start_with 2 (view.program coded.program).vars)) r
    → Gets (UnlessRejected (rejection p) (UnlessRejected (unfit_starts p (start_with 1 p.vars) (start_with 2 p.vars)) (SumsUp rounds (starts_with_secrets p schedule)))) r
big_by_code rounds schedule p coded of r h =
    subst (λ m. Gets (UnlessRejected (rejection p) (SumsUpProgram rounds schedule (resolved p) (code_of p) (start_with 1 p.vars) m)) r) (same_starts 2 p p.vars)
    (subst (λ m. Gets (UnlessRejected (rejection p) (SumsUpProgram rounds schedule (resolved p) (code_of p) m (start_with 2 (resolved p).vars))) r) (same_starts 1 p p.vars)
    (by_code p coded of (λ q c. SumsUpProgram rounds schedule q c (start_with 1 q.vars) (start_with 2 q.vars)) r h))

-- Four runs ----------------------------------------------------------------------------------------------------

-- two machines of a secure program that run side by side from fit starts are never found apart
pub runs_not_apart : (p : d.Program) (r q : Run) (left right schedule : List ℕ) (o : Option Found) → r ≡ begin (plain (view.program p)) left
    → q ≡ begin (plain (view.program p)) right → IsSecure (plain (view.program p)) → IsMemory (length p.vars) left → IsMemory (length p.vars) right
    → AreFitStarts (plain (view.program p)) left right → IsSchedule (length p.threads) schedule
    → MatchOption o (AgreeThroughout (plain (view.program p)) r q schedule) (λ f. IsFirstStepApart (plain (view.program p)) r q schedule f)
    → is_some o ≡ true → ⊥
runs_not_apart p r q left right schedule None first second secure l k fit threads found some = let wrong : false ≡ true = some in cc
runs_not_apart p r q left right schedule (Some f) first second secure l k fit threads found some =
    let seen = plain (view.program p) in
    let vars : length seen.vars ≡ length p.vars = length-map p.vars view.var in
    let all : length seen.threads ≡ length p.threads = length-map (map view.thread p.threads) plain_thread ∙ length-map p.threads view.thread in
    secure_not_apart seen left right schedule f secure (subst (λ n. IsMemory n left) (sym vars) l) (subst (λ n. IsMemory n right) (sym vars) k) fit
    (subst (λ n. IsSchedule n schedule) (sym all) threads)
    (subst (λ b. IsFirstStepApart seen (begin seen left) b schedule f) second (subst (λ a. IsFirstStepApart seen a q schedule f) first found))

-- Replies ------------------------------------------------------------------------------------------------------

pub sum_sound : (rounds : ℕ) (i : PairInput) → IsSoundReply (λ status. status ≡ s.Done) (SumsUp rounds i)
sum_sound rounds i = record { one = λ reply other h k. h.is ∙ sym k.is; success = λ reply h. ap status_of h.is }
