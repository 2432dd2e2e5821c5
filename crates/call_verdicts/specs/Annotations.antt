-- `annotate`: what is replied to a program into which a search puts certificates.
use Rattle.std.specs.Prelude.{◌≡◌, ℕ, List, ◌++◌, codes, decimal, flat_map, Option, option_map}
use Rattle.annotate.specs.Annotated.{first_refused, unproved}
use Rattle.annotate.specs.declared.outcome.Open.{Open}
use Rattle.annotate.specs.AnnotatedText.{annotated_text}
use Rattle.call_inputs.specs.Plans.{Plan, does}
use Rattle.call_inputs.specs.Readings.{Reading, gives, then_read, tries}
use Rattle.call_inputs.specs.Rejections.{Rejection, by_rule_open}
use Rattle.call_inputs.specs.Steps as step
use Rattle.call_judge.specs.Check.{IsAcceptedText, name_rejection, rejection_by, thread_name}
use Rattle.call_judge.specs.Meaning.{meaning}
use Rattle.call_reports.specs.Replies.{Reply, spelled}
use Rattle.call_reports.specs.Differences.{name_at}
use Rattle.cov_ast.specs.Obligations.{first_false}
use Rattle.cov_ast.specs.Syntax.{Parsed, Thread}
use Rattle.cov_ast.specs.declared.refusal.Refusal.{Refusal}
use Rattle.cov_print.specs.Spelling.{spelling}
use Rattle.flow_model.specs.Secure.{IsSecure}
use Rattle.mode_compat.specs.Declared.{declaration_obligations}
use Rattle.policy_class.specs.Resolved.{resolved}

-- What is left unproved ------------------------------------------------------------------------------------------------------

-- the line of an entailment that is left unproved: the name of its thread, the place of its statement, and its number there
abbrev pub unproved_line : List Thread → Open → List ℕ
unproved_line threads g =
    codes "open " ++ name_at threads g.thread ++ codes " at " ++ decimal g.place ++ codes " entailment " ++ decimal g.number ++ codes "\n"

-- a line for each
abbrev pub unproved_lines : List Thread → List Open → List ℕ
unproved_lines threads gs = flat_map (unproved_line threads) gs

-- Rejections -----------------------------------------------------------------------------------------------------------------

-- why declarations aren't in order, where names are: the first obligation of theirs that doesn't hold (W3 to W9)
abbrev pub declared_rejection : Parsed → Option Rejection
declared_rejection p = rejection_by p (first_false (declaration_obligations (resolved p)))

-- the rejection for the first obligation of the annotated program that doesn't hold, with a line for each entailment that the search leaves unproved
abbrev pub unproved_rejection : (depth : ℕ) → Parsed → Refusal → Rejection
unproved_rejection depth p refusal = by_rule_open refusal (thread_name p refusal.thread) (unproved_lines p.threads (unproved depth (resolved p)))

-- why the annotated program isn't accepted
abbrev pub annotation_rejection : (depth : ℕ) → Parsed → Option Rejection
annotation_rejection depth p = option_map (unproved_rejection depth p) (first_refused depth (resolved p))

-- The command ----------------------------------------------------------------------------------------------------------------

-- The reply to a program whose annotated program is accepted is the canonical spelling of the annotated text.
abbrev pub Annotates : (depth : ℕ) → Parsed → Reply → Type 0
Annotates depth p reply = reply ≡ spelled (spelling (annotated_text depth p))

-- what is asked: that the names of the program are in order (W1, W2), and its declarations (W3 to W9), and that the annotated program is accepted
abbrev pub accepted_annotated : (depth : ℕ) → Parsed → Reading Parsed
accepted_annotated depth p = tries (name_rejection p) (tries (declared_rejection p) (tries (annotation_rejection depth p) (gives p)))

-- what `annotate` reads
abbrev pub annotate_reading : (name : List ℕ) (depth : ℕ) → Reading Parsed
annotate_reading name depth = then_read (step.program name) (accepted_annotated depth)

-- what `annotate` does
abbrev pub annotate_plan : (name : List ℕ) (depth : ℕ) → Plan
annotate_plan name depth = does (annotate_reading name depth) (Annotates depth)

-- The annotated text of a program is accepted, and means what the program does, which is secure.
pub record IsSecureAnnotated (depth : ℕ) (p : Parsed) : Type 0 where
  pub accepted : IsAcceptedText (annotated_text depth p)
  pub same : meaning (annotated_text depth p) ≡ meaning p
  pub secure : IsSecure (meaning p)
