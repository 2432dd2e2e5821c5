-- Rejections: why a command doesn't do what is asked, of what was read.
use Rattle.std.specs.Prelude.{◌≡◌, ℕ, List, Option, Some, None}
use Rattle.call_reports.specs.Replies.{Reply, usage, refused, refused_for, refused_open, bad_starts, malformed}
use Rattle.call_reports.specs.declared.answers.Fault.{Fault}
use Rattle.cov_ast.specs.declared.refusal.Refusal.{Refusal}

-- the words have none of the forms; or a rule is broken, in a thread with a name, or in none, also in what the observer at a level is shown, or
-- with lines of what a search for proofs leaves unproved; or two starts aren't fit, which a variable or a lock with a name says; or a file has
-- this fault beside the program for which it was read
pub data Rejection : Type 0 where
  no_form : Rejection
  by_rule : Refusal → (thread : Option (List ℕ)) → Rejection
  by_rule_for : (level : List ℕ) → Refusal → (thread : Option (List ℕ)) → Rejection
  by_rule_open : Refusal → (thread : Option (List ℕ)) → (lines : List ℕ) → Rejection
  unfit : (name : List ℕ) → Rejection
  misfit : (name : List ℕ) → Fault → Rejection

-- what is replied then
abbrev pub rejected : Rejection → Reply
rejected no_form = usage
rejected (by_rule refusal thread) = refused refusal thread
rejected (by_rule_for level refusal thread) = refused_for level refusal thread
rejected (by_rule_open refusal thread lines) = refused_open refusal thread lines
rejected (unfit name) = bad_starts name
rejected (misfit name fault) = malformed name fault

-- The reply is that of the rejection, or where there is none, it is such a one.
abbrev pub UnlessRejected : Option Rejection → (may_reply : Reply → Type 0) → Reply → Type 0
UnlessRejected (Some rejection) may_reply reply = reply ≡ rejected rejection
UnlessRejected None may_reply reply = may_reply reply
