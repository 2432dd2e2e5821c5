-- Laws of `check`: the obligations of what a text spells, and what is replied to it.
use Rattle.std.proofs.Common.{◌≡◌, ℕ, List, [], ◌∷◌, ◌++◌, Bool, true, false, ◌&&◌, Option, Some, None, Result, Ok, Err, IsTrue, refl, sym, ap, ◌∙◌, cond, subst, map, slice_get}
use Rattle.std.specs.Prelude.{MatchResult}
use Rattle.cov_ast.specs.Syntax.{Parsed, Program, Thread}
use Rattle.cov_ast.specs.declared.parsed.NameUse.{NameUse}
use Rattle.cov_ast.specs.Obligations.{Obligation, all_hold, first_false}
use Rattle.cov_ast.specs.declared.refusal.CheckFault.TheVariants.{Refused}
use Rattle.cov_ast.specs.declared.refusal.Refusal.{Refusal}
use Rattle.cov_ast.proofs.ObligationLaws.{append_refused, append_held, both_hold, none_refused}
use Rattle.policy_class.specs.Resolved.{Named, declared_names, lock_id, name_obligations, resolved, resolved_thread, use_obligation, var_id, w1_from}
use Rattle.typing_law.specs.Accepted.{program_obligations, IsAccepted}
use Rattle.call_inputs.specs.Rejections.{UnlessRejected, by_rule}
use Rattle.call_judge.specs.Check.{accepted_with, obligations, thread_name, name_in, rejection, rejection_by, totals, verdict, Judges, IsAcceptedText}
use Rattle.call_judge.specs.Inside.{IsProgramRejected, IsRejected}
use Rattle.call_judge.specs.Meaning.{AreNamesInOrder}
use Rattle.call_reports.specs.AnswerViews.{Gets, Stops, seen}
use Rattle.call_reports.specs.Replies.{Reply, refused}
use Rattle.call_reports.specs.declared.answers.Answer.{Answer}
use Rattle.call_reports.specs.declared.answers.Stop.{Stop}
use Rattle.call_reports.proofs.AnswerLaws.{stops_onward}

-- Obligations --------------------------------------------------------------------------------------------------

pub names_hold : (p : Parsed) → IsTrue (all_hold (obligations p)) → AreNamesInOrder p
names_hold p h = (both_hold (name_obligations p) _ h).0

-- Obligations of names are none of a thread.
abbrev AreOfNoThread : List Obligation → Type 0
AreOfNoThread [] = Unit {0}
AreOfNoThread (e ∷ es) = (e.refusal.thread ≡ None) × AreOfNoThread es

first_without : (es : List Obligation) (refusal : Refusal) → AreOfNoThread es → first_false es ≡ Some refusal → refusal.thread ≡ None
first_without [] refusal h first = let e : None ≡ Some refusal = first in cc
first_without (e ∷ es) refusal h first = go (first_without es refusal h.1) e.holds first
  where
    go : (first_false es ≡ Some refusal → refusal.thread ≡ None) → (b : Bool) → cond b (first_false es) (Some e.refusal) ≡ Some refusal
        → refusal.thread ≡ None
    go rest true first = rest first
    go rest false first = let same : e.refusal ≡ refusal = cc in subst (λ r. r.thread ≡ None) same h.0

both_without : (a b : List Obligation) → AreOfNoThread a → AreOfNoThread b → AreOfNoThread (a ++ b)
both_without [] b h k = k
both_without (e ∷ es) b h k = (h.0, both_without es b h.1 k)

w1_without : (before : List (List ℕ)) (ns : List Named) → AreOfNoThread (w1_from before ns)
w1_without before [] = tt
w1_without before (n ∷ ns) = (refl, w1_without (before ++ n.name ∷ []) ns)

uses_without : (p : Parsed) (us : List NameUse) → AreOfNoThread (map (use_obligation p) us)
uses_without p [] = tt
uses_without p (u ∷ us) = (refl, uses_without p us)

names_without : (p : Parsed) → AreOfNoThread (name_obligations p)
names_without p =
    both_without (w1_from [] (declared_names p)) (map (use_obligation p) p.uses) (w1_without [] (declared_names p)) (uses_without p p.uses)

-- A thread has in the program the name that it has in the text.
pub same_name : (p : Parsed) (thread : Option ℕ) → name_in (resolved p).threads thread ≡ thread_name p thread
same_name p None = refl
same_name p (Some t) = ap (λ names. slice_get names t) (over p.threads)
  where
    over : (ts : List Thread) → map (λ th. th.name) (map (resolved_thread (var_id p) (lock_id p)) ts) ≡ map (λ th. th.name) ts
    over [] = refl
    over (th ∷ ths) = ap (◌∷◌ th.name) (over ths)

-- Verdicts -----------------------------------------------------------------------------------------------------

-- Where all obligations hold, none is the first that doesn't.
pub none_false : (es : List Obligation) → IsTrue (all_hold es) → first_false es ≡ None
none_false [] h = refl
none_false (e ∷ es) h = go (none_false es) e.holds h
  where
    go : (IsTrue (all_hold es) → first_false es ≡ None) → (b : Bool) → IsTrue (b && all_hold es) → cond b (first_false es) (Some e.refusal) ≡ None
    go rest true h = rest h
    go rest false h = cc

-- what refuses the names of a text rejects it, and no thread is named
pub names_rejected : (p : Parsed) (refusal : Refusal) → first_false (name_obligations p) ≡ Some refusal → IsRejected p (refused refusal None)
names_rejected p refusal h =
    let first : first_false (obligations p) ≡ Some refusal = append_refused (name_obligations p) _ (Refused refusal) h in (
      by_rule refusal None,
      ap (rejection_by p) first ∙ ap (λ t. Some (by_rule refusal t)) (first_without_name refusal h),
      refl,
    )
  where
    first_without_name : (refusal : Refusal) → first_false (name_obligations p) ≡ Some refusal → thread_name p refusal.thread ≡ None
    first_without_name refusal h = ap (thread_name p) (first_without (name_obligations p) refusal (names_without p) h)

-- what is rejected is what is judged so
pub rejected_judged : (p : Parsed) (reply : Reply) → IsRejected p reply → Judges p reply
rejected_judged p reply (q, e, is) = subst (λ o. UnlessRejected o (λ r. r ≡ verdict p) reply) (sym e) is

module _ (p : Parsed) (program : Program) (is : program ≡ resolved p) (named : first_false (name_obligations p) ≡ None) where
  -- where the names are in order, the obligations are those of names and those of the program
  whole : name_obligations p ++ program_obligations program ≡ obligations p
  whole =
      ap (λ q. name_obligations p ++ program_obligations q) is
      ∙ ap (λ b. name_obligations p ++ cond b (program_obligations (resolved p)) []) (sym (none_refused (name_obligations p) named))

  pub same_first : first_false (program_obligations program) ≡ first_false (obligations p)
  same_first = sym (append_held (name_obligations p) (program_obligations program) named) ∙ ap first_false whole

  pub accepted_program : IsAcceptedText p → IsAccepted program
  accepted_program h = (both_hold (name_obligations p) (program_obligations program) (subst (λ es. IsTrue (all_hold es)) (sym whole) h)).1

  -- what rejects the program rejects the text
  pub program_rejected : (reply : Reply) → IsProgramRejected program reply → IsRejected p reply
  program_rejected reply (refusal, first, same) = (
    by_rule refusal (thread_name p refusal.thread),
    ap (rejection_by p) (sym same_first ∙ first),
    same ∙ ap (refused refusal) (ap (λ q. name_in q.threads refusal.thread) is ∙ same_name p refusal.thread),
  )

  -- what is accepted isn't rejected
  pub none_rejects : IsAccepted program → rejection p ≡ None
  none_rejects holds = ap (rejection_by p) (sym same_first ∙ none_false (program_obligations program) holds)

  -- what is said of the program is said of the text
  pub program_judged : (r : Result Answer Stop)
      → MatchResult r (λ answer. IsAccepted program × (seen answer ≡ accepted_with (totals program)))
      (Stops (IsProgramRejected program)) → Gets (Judges p) r
  program_judged (Ok answer) h =
      subst (λ o. UnlessRejected o (λ r. r ≡ verdict p) (seen answer)) (sym (none_rejects h.0))
      (h.1 ∙ ap (λ q. accepted_with (totals q)) is)
  program_judged (Err stop) h =
      stops_onward (IsProgramRejected program) (Judges p) stop (λ reply rejects. rejected_judged p reply (program_rejected reply rejects)) h

-- A text that isn't rejected is accepted.
pub not_rejected : (p : Parsed) → rejection p ≡ None → IsAcceptedText p
not_rejected p h = none_refused (obligations p) (by (first_false (obligations p)) h)
  where
    by : (o : Option Refusal) → rejection_by p o ≡ None → o ≡ None
    by None e = refl
    by (Some refusal) e = cc
