-- Laws of annotated programs: what is read is as reading gives it, and what is replied by what a search gave.
use Rattle.std.proofs.Common.{◌≡◌, ℕ, ◌≤◌, List, [], ◌∷◌, ◌++◌, length, map, flat_map, get_or, codes, decimal, Option, Some, None, Result, Ok, Err, inl, inr, refl, sym, ap, subst, ◌∙◌}
use Rattle.std.specs.Prelude.{option_map}
use Rattle.annotate.specs.Annotated.{first_refused, unproved}
use Rattle.annotate.specs.declared.outcome.Open.{Open}
use Rattle.annotate.specs.AnnotatedText.{IsAsRead, annotated_text}
use Rattle.call_inputs.proofs.PlanLaws.{IsSoundReply, carried_tries, one_sound}
use Rattle.call_inputs.specs.Plans.{CarriesOut, does}
use Rattle.call_inputs.specs.Programs.{SpellsProgram}
use Rattle.call_inputs.specs.Readings.{HasRead, gives, took, tries}
use Rattle.call_inputs.specs.Rejections.{Rejection, UnlessRejected, by_rule}
use Rattle.call_inputs.specs.Steps.{program}
use Rattle.call_judge.specs.Check.{name_rejection, rejection_by, thread_name}
use Rattle.call_judge.specs.Inside.{IsUnnamed}
use Rattle.call_reports.proofs.AnswerLaws.{stops_onward}
use Rattle.call_reports.specs.AnswerViews.{Gets, Stops}
use Rattle.call_reports.specs.Replies.{Reply, refused, refused_open, spelled}
use Rattle.call_reports.specs.declared.answers.Answer.{Answer}
use Rattle.call_reports.specs.declared.answers.Status.TheVariants as s
use Rattle.call_reports.specs.declared.answers.Stop.{Stop}
use Rattle.cov_ast.specs.Obligations.{first_false}
use Rattle.cov_ast.specs.Syntax.{Parsed, Program, Thread}
use Rattle.cov_ast.specs.declared.refusal.Refusal.{Refusal}
use Rattle.cov_expr.specs.declared.limits.TheConstants.{MOST_BYTES}
use Rattle.cov_io.specs.Shelves.{Shelved}
use Rattle.cov_io.specs.declared.shelf.Fetched.TheVariants.{Whole, TooLong}
use Rattle.cov_io.specs.declared.shelf.ShelfFault.TheVariants.{Failed, NoMemory}
use Rattle.cov_print.specs.Spelling.{spelling}
use Rattle.mode_compat.specs.Declared.{declaration_obligations}
use Rattle.call_judge.proofs.CheckLaws.{same_name}
use Rattle.policy_class.specs.Resolved.{lock_id, resolved, resolved_thread, var_id}
use Rattle.call_verdicts.specs.Annotations.{Annotates, annotation_rejection, declared_rejection, unproved_rejection}
use Rattle.call_verdicts.specs.Inside.{IsUndeclared, JudgesAnnotated, reply_by}

-- Texts ----------------------------------------------------------------------------------------------------------------------

-- Each text that is read is as reading gives it.
abbrev pub AreReadSo : Type 0
AreReadSo = (bytes : List ℕ) (p : Parsed) → length bytes ≤ MOST_BYTES → SpellsProgram bytes p → IsAsRead p

-- what a step took of a file that spells a program
pub program_as_read : AreReadSo → (before after : Shelved) (name : List ℕ) (p : Parsed) → HasRead before after (program name) (took p) → IsAsRead p
program_as_read so before after name p (last, Ok (Whole bytes), call, inl (q, spells, e)) =
    let same : q ≡ p = let taken : took q ≡ took p = e.1 in cc in
    subst IsAsRead same (so bytes q call.gives.0 spells)
program_as_read so before after name p (last, Ok (Whole bytes), call, inr (inl (fault, is, e))) = let wrong = e.1 in cc
program_as_read so before after name p (last, Ok (Whole bytes), call, inr (inr e)) = let wrong = e.1 in cc
program_as_read so before after name p (last, Ok TooLong, call, e) = let wrong = e.1 in cc
program_as_read so before after name p (last, Err Failed, call, e) = let wrong = e.1 in cc
program_as_read so before after name p (last, Err NoMemory, call, e) = let wrong = e.1 in cc

-- Declarations ---------------------------------------------------------------------------------------------------------------

module _ (p : Parsed) (q : Program) (same : q ≡ resolved p) where
  -- by the obligations of the program that the text stands for
  pub declared_by : (o : Option Refusal) → first_false (declaration_obligations q) ≡ o → declared_rejection p ≡ rejection_by p o
  declared_by o first = ap (rejection_by p) (ap (λ r. first_false (declaration_obligations r)) (sym same) ∙ first)

  pub undeclared_told : (refusal : Refusal) (thread : Option (List ℕ)) → first_false (declaration_obligations q) ≡ Some refusal → thread ≡ thread_name p refusal.thread
      → IsUndeclared p (refused refusal thread)
  undeclared_told refusal thread first named =
      (by_rule refusal (thread_name p refusal.thread), declared_by (Some refusal) first, ap (refused refusal) named)

-- Replies --------------------------------------------------------------------------------------------------------------------

pub annotations_sound : (depth : ℕ) (p : Parsed) → IsSoundReply (λ status. status ≡ s.Done) (Annotates depth p)
annotations_sound depth p = one_sound (spelled (spelling (annotated_text depth p))) refl

-- The threads of a text and of the program that it stands for have the same names, and by these alone a reply tells of them.
same_names : (p : Parsed) → map (λ thread. thread.name) (resolved p).threads ≡ map (λ thread. thread.name) p.threads
same_names p = over p.threads
  where
    over : (hs : List Thread) → map (λ h. h.name) (map (resolved_thread (var_id p) (lock_id p)) hs) ≡ map (λ h. h.name) hs
    over [] = refl
    over (h ∷ hs) = ap (◌∷◌ h.name) (over hs)

reply_named : (p : Parsed) (text : List ℕ) (left : List Open) (first : Option Refusal) → reply_by (resolved p).threads text left first ≡ reply_by p.threads text left first
reply_named p text left None = refl
reply_named p text left (Some refusal) =
    λ i. refused_open refusal (same_name p refusal.thread i) (lines_of (same_names p i))
  where
    lines_of : List (List ℕ) → List ℕ
    lines_of names = flat_map (λ g. codes "open " ++ get_or names g.thread [] ++ codes " at " ++ decimal g.place ++ codes " entailment " ++ decimal g.number ++ codes "\n") left

-- of a program that isn't rejected for what is left unproved, all of the annotated one holds
pub none_unproved : (depth : ℕ) (p : Parsed) → annotation_rejection depth p ≡ None → first_refused depth (resolved p) ≡ None
none_unproved depth p = by (first_refused depth (resolved p))
  where
    by : (o : Option Refusal) → option_map (unproved_rejection depth p) o ≡ None → o ≡ None
    by None h = refl
    by (Some r) h = cc

module _ (depth : ℕ) (p : Parsed) where
  -- what may be rejected for three reasons
  pub carried_three : (shelf : Shelved) (r : Result Answer Stop) (a b c : Option Rejection)
      → Gets (UnlessRejected a (UnlessRejected b (UnlessRejected c (Annotates depth p)))) r
      → CarriesOut shelf shelf (does (tries a (tries b (tries c (gives p)))) (Annotates depth)) r
  carried_three shelf r None b c h = inl (carried_tries (Annotates depth) p shelf r b c h)
  carried_three shelf r (Some rejection) b c h = inl (refl, h)

  -- names that aren't in order
  pub unnamed_judged : (why : Stop) → Stops (IsUnnamed p) why → Gets (JudgesAnnotated depth p) (Err why)
  unnamed_judged why h =
      stops_onward (IsUnnamed p) (JudgesAnnotated depth p) why
      (λ reply (q, some, is). subst (λ o. UnlessRejected o (UnlessRejected (declared_rejection p) (UnlessRejected (annotation_rejection depth p) (Annotates depth p))) reply)
      (sym some) is) h

  module _ (named : name_rejection p ≡ None) where
    named_judged : (reply : Reply) → UnlessRejected (declared_rejection p) (UnlessRejected (annotation_rejection depth p) (Annotates depth p)) reply
        → JudgesAnnotated depth p reply
    named_judged reply h =
        subst (λ o. UnlessRejected o (UnlessRejected (declared_rejection p) (UnlessRejected (annotation_rejection depth p) (Annotates depth p))) reply) (sym named) h

    -- declarations that aren't
    pub undeclared_judged : (why : Stop) → Stops (IsUndeclared p) why → Gets (JudgesAnnotated depth p) (Err why)
    undeclared_judged why h =
        stops_onward (IsUndeclared p) (JudgesAnnotated depth p) why
        (λ reply (q, some, is). named_judged reply (subst (λ o. UnlessRejected o (UnlessRejected (annotation_rejection depth p) (Annotates depth p)) reply) (sym some) is)) h

    module _ (declared : declared_rejection p ≡ None) where
      by_first : (first : Option Refusal) (reply : Reply) → reply ≡ reply_by p.threads (spelling (annotated_text depth p)) (unproved depth (resolved p)) first
          → UnlessRejected (option_map (unproved_rejection depth p) first) (Annotates depth p) reply
      by_first None reply is = is
      by_first (Some refusal) reply is = is

      -- what a search gave
      pub annotated_judged : (reply : Reply) (q : Program) (text : List ℕ) (left : List Open) (first : Option Refusal) → q ≡ resolved p
          → text ≡ spelling (annotated_text depth p) → left ≡ unproved depth q → first ≡ first_refused depth q → reply ≡ reply_by q.threads text left first
          → JudgesAnnotated depth p reply
      annotated_judged reply q text left first same made opened told is =
          let opened' : left ≡ unproved depth (resolved p) = opened ∙ ap (unproved depth) same in
          let told' : first ≡ first_refused depth (resolved p) = told ∙ ap (first_refused depth) same in
          named_judged reply
          (subst (λ o. UnlessRejected o (UnlessRejected (annotation_rejection depth p) (Annotates depth p)) reply) (sym declared)
          (by_first (first_refused depth (resolved p)) reply
          (is ∙ (λ i. reply_by (same i).threads (made i) (opened' i) (told' i))
          ∙ reply_named p (spelling (annotated_text depth p)) (unproved depth (resolved p)) (first_refused depth (resolved p)))))
