-- Laws of `object` and `unobject`: their replies are sound, and the listing of the object of a program is that of its code.
use Rattle.std.proofs.Common.{◌≡◌, ◌⊎◌, ℕ, List, Option, Some, None, Result, Ok, Err, ◌≤◌, length, refl, sym, ap, ◌∙◌, subst, inl, inr}
use Rattle.object_code.specs.Object.{HasObject, IsObjectOf, object}
use Rattle.object_code.proofs.FaultLaws.{object_or_faulty, one_faulty, one_object}
use Rattle.risc_machine.specs.Faults.{fault_of}
use Rattle.risc_machine.specs.declared.parts.Parts.{Parts}
use Rattle.cov_ast.specs.Syntax.{Parsed}
use Rattle.cov_expr.specs.declared.limits.TheConstants.{MOST_BYTES, MOST_OBJECT_BYTES}
use Rattle.cov_io.specs.Shelves.{File, held}
use Rattle.cov_io.specs.declared.shelf.Fetched.{Fetched}
use Rattle.cov_io.specs.declared.shelf.Fetched.TheVariants.{Whole, TooLong}
use Rattle.cov_io.specs.declared.shelf.ShelfFault.{ShelfFault}
use Rattle.cov_io.specs.declared.shelf.ShelfFault.TheVariants.{Failed, NoMemory}
use Rattle.call_inputs.proofs.PlanLaws.{IsSoundReply}
use Rattle.call_inputs.proofs.ReadingLaws.{IsReading, answer_whole, bytes_read}
use Rattle.call_inputs.proofs.TextLaws.{program_reading, not_some}
use Rattle.call_inputs.specs.Plans.{RepliesAt, RepliesOver}
use Rattle.call_inputs.specs.Programs.{IsShownFault, SpellsProgram}
use Rattle.call_inputs.specs.Readings.{FollowsBytes, FollowsCall, Over, answer_by, gives, tries}
use Rattle.call_inputs.specs.Rejections.{Rejection, by_rule, by_rule_for, by_rule_open, misfit, no_form, rejected, unfit}
use Rattle.call_judge.specs.Check.{rejection}
use Rattle.call_reports.specs.Replies.{Reply, malformed, spelled, status_of}
use Rattle.call_reports.specs.declared.answers.Fault.{Fault}
use Rattle.call_reports.specs.declared.answers.Fault.TheVariants as f
use Rattle.call_reports.specs.declared.answers.Status.TheVariants as s
use Rattle.call_code.specs.Codes.{Compiles, RepliesListing, code_of, compile_plan}
use Rattle.call_code.specs.Objects.{IsByteFault, IsCodeFault, IsObjectCode, IsObjectFault, RepliesObject, WritesObject, object_plan, unobject_plan}

-- Replies ------------------------------------------------------------------------------------------------------

pub object_sound : (p : Parsed) → IsSoundReply (λ status. status ≡ s.Done) (WritesObject p)
object_sound p = record { one = λ reply other h k. h.is ∙ sym k.is; success = λ reply h. ap status_of h.is }

pub unobject_sound : (c : Parts) → IsSoundReply (λ status. status ≡ s.Done) (RepliesListing c)
unobject_sound c = record { one = λ reply other h k. h.is ∙ sym k.is; success = λ reply h. ap status_of h.is }

-- Objects ------------------------------------------------------------------------------------------------------

one_code : (bytes : List ℕ) (c d : Parts) → IsObjectCode bytes c → IsObjectCode bytes d → c ≡ d
one_code bytes c d h k = one_object bytes c d h.0 k.0

byte_or_code : (bytes : List ℕ) (fault other : Fault) → IsByteFault bytes fault → IsCodeFault bytes other → ⊥
byte_or_code bytes fault other h k = object_or_faulty bytes k.parts h.at k.object h.faulty

one_object_fault : (bytes : List ℕ) (fault other : Fault) → IsObjectFault bytes fault → IsObjectFault bytes other → fault ≡ other
one_object_fault bytes fault other (inl h) (inl k) = h.is ∙ ap f.Object (one_faulty bytes h.at k.at h.faulty k.faulty) ∙ sym k.is
one_object_fault bytes fault other (inl h) (inr k) = absurd (byte_or_code bytes fault other h k)
one_object_fault bytes fault other (inr h) (inl k) = absurd (byte_or_code bytes other fault k h)
one_object_fault bytes fault other (inr h) (inr k) = h.is ∙ sym k.is

code_or_fault : (bytes : List ℕ) (c : Parts) (fault : Fault) → IsObjectCode bytes c → IsObjectFault bytes fault → ⊥
code_or_fault bytes c fault h (inl k) = object_or_faulty bytes c k.at h.0 k.faulty
code_or_fault bytes c fault h (inr k) = not_some (fault_of c) k.found h.1 (ap fault_of (one_object bytes c k.parts h.0 k.object) ∙ k.faulty)

pub code_reading : IsReading IsObjectCode IsObjectFault
code_reading = record { one_value = one_code; one_fault = one_object_fault; not_both = code_or_fault }

-- Both commands ------------------------------------------------------------------------------------------------

-- the bytes that are written of code are its object
written_code : (bytes : List ℕ) (c : Parts) → RepliesObject c (spelled bytes) → IsObjectCode bytes c
written_code bytes c h =
    let same : bytes ≡ object c = cc (h.is) in
    (record { whole = h.whole; spelling = same }, h.is_code.faultless)

-- no rejection is a text
never_rejected : (text : List ℕ) (rejection : Rejection) → spelled text ≡ rejected rejection → ⊥
never_rejected text no_form e = cc
never_rejected text (by_rule refusal thread) e = cc
never_rejected text (by_rule_for level refusal thread) e = cc
never_rejected text (by_rule_open refusal thread lines) e = cc
never_rejected text (unfit name) e = cc
never_rejected text (misfit name fault) e = cc

module _ (files : List File) (name bytes : List ℕ) (at : held files name ≡ Some bytes) (fits : length bytes ≤ MOST_OBJECT_BYTES) (reply : Reply) where
  -- what follows a call for the object
  abbrev follows : Result Fetched ShelfFault → Type 0
  follows answer = FollowsCall IsObjectCode IsObjectFault name (λ c. RepliesListing c reply) (λ other. reply ≡ other) ⊥ answer

  is_whole : Ok (Whole bytes) ≡ answer_by MOST_OBJECT_BYTES (held files name)
  is_whole = answer_whole MOST_OBJECT_BYTES (held files name) bytes at fits

  -- what is replied to the object of code is the listing of that code
  listing_of : (c : Parts) → RepliesObject c (spelled bytes) → RepliesOver files (unobject_plan name) reply → RepliesListing c reply
  listing_of c made h =
      bytes_read IsObjectCode IsObjectFault name code_reading (λ d. RepliesListing d reply) (λ other. reply ≡ other) bytes c (written_code bytes c made)
      (subst follows (sym is_whole) h)

  listed_from : (c : Parts) → RepliesObject c (spelled bytes) → RepliesListing c reply → RepliesOver files (unobject_plan name) reply
  listed_from c made h = subst follows is_whole (inl (c, written_code bytes c made, h))

  -- what follows of a text, and a call for it, of a command by the code of an accepted program
  module _ (may_reply : Parsed → Reply → Type 0) (result : Reply) where
    abbrev replies_to : Parsed → Option Rejection → Type 0
    replies_to p o = Over files (λ end. RepliesAt may_reply end result) (tries o (gives p))

    abbrev follows_text : (program : List ℕ) → Result Fetched ShelfFault → Type 0
    follows_text program answer = FollowsCall SpellsProgram IsShownFault program (λ p. replies_to p (rejection p)) (λ other. result ≡ other) ⊥ answer

  compiles_to : (p : Parsed) (o : Option Rejection) → replies_to WritesObject (spelled bytes) p o → RepliesOver files (unobject_plan name) reply
      → replies_to Compiles reply p o
  compiles_to p None made h = listing_of (code_of p) made h
  compiles_to p (Some rejection) made h = absurd (never_rejected bytes rejection made)

  listed_to : (p : Parsed) (o : Option Rejection) → replies_to WritesObject (spelled bytes) p o → replies_to Compiles reply p o
      → RepliesOver files (unobject_plan name) reply
  listed_to p None made h = listed_from (code_of p) made h
  listed_to p (Some rejection) made h = absurd (never_rejected bytes rejection made)

  module _ (program : List ℕ) where
    compiled_after : (answer : Result Fetched ShelfFault) → follows_text WritesObject (spelled bytes) program answer
        → RepliesOver files (unobject_plan name) reply → follows_text Compiles reply program answer
    compiled_after (Ok (Whole text)) (inl (p, spells, made)) h = inl (p, spells, compiles_to p (rejection p) made h)
    compiled_after (Ok (Whole text)) (inr (inl (fault, is, e))) h = absurd cc
    compiled_after (Ok (Whole text)) (inr (inr none)) h = absurd none
    compiled_after (Ok TooLong) e h = absurd cc
    compiled_after (Err Failed) e h = absurd cc
    compiled_after (Err NoMemory) none h = absurd none

    listed_after : (answer : Result Fetched ShelfFault) → follows_text WritesObject (spelled bytes) program answer
        → follows_text Compiles reply program answer → RepliesOver files (unobject_plan name) reply
    listed_after (Ok (Whole text)) (inl (p, spells, made)) h =
        listed_to p (rejection p) made
        (bytes_read SpellsProgram IsShownFault program program_reading (λ q. replies_to Compiles reply q (rejection q)) (λ other. reply ≡ other) text p spells h)
    listed_after (Ok (Whole text)) (inr (inl (fault, is, e))) h = absurd cc
    listed_after (Ok (Whole text)) (inr (inr none)) h = absurd none
    listed_after (Ok TooLong) e h = absurd cc
    listed_after (Err Failed) e h = absurd cc
    listed_after (Err NoMemory) none h = absurd none

    pub object_then_compiled : RepliesOver files (object_plan program) (spelled bytes) → RepliesOver files (unobject_plan name) reply
        → RepliesOver files (compile_plan program) reply
    object_then_compiled made h = compiled_after (answer_by MOST_BYTES (held files program)) made h

    pub object_then_listed : RepliesOver files (object_plan program) (spelled bytes) → RepliesOver files (compile_plan program) reply
        → RepliesOver files (unobject_plan name) reply
    object_then_listed made h = listed_after (answer_by MOST_BYTES (held files program)) made h
