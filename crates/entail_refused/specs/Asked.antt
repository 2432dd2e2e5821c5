-- What is told of the entailment for which a program is refused: what it asks, its goal, its hypotheses by number, each with where it
-- comes from, and its certificate; then what is found for it, and where that is no certificate, where the types of the goal come from, and what would help.
use Rattle.std.specs.Prelude.{ℕ, nat_lt, List, [], ◌++◌, length, if◌then◌else◌, Option, Some, None}
use Rattle.cov_ast.specs.Obligations.{all_hold}
use Rattle.cov_ast.specs.Plain.{plain}
use Rattle.cov_ast.specs.Syntax.{Program}
use Rattle.cov_ast.specs.declared.refusal.Rule.{Rule}
use Rattle.cov_ast.specs.declared.refusal.Rule.TheVariants.{V9}
use Rattle.cov_ast.specs.declared.refusal.Detail.{Detail}
use Rattle.cov_ast.specs.declared.refusal.Detail.TheVariants.{Number}
use Rattle.entail_origins.specs.QuestionLines.{question_line}
use Rattle.entail_text.specs.EntailmentLines.{entailment_text}
use Rattle.entail_text.specs.Findings.{Finding, found_for, is_shown}
use Rattle.text_parts.specs.VariableNames.{variable_names}
use Rattle.mode_compat.specs.Compatible.{numbered}
use Rattle.mode_compat.specs.Declared.{declaration_obligations}
use Rattle.typing_law.specs.ThreadEntailments.{PlacedEntailment, entailment_among, thread_entailments}
use Rattle.entail_refused.specs.Further.{further_lines}
use Rattle.entail_refused.specs.GivenCertificates.{cert_of}
use Rattle.entail_refused.specs.GivenElsewhere.{given_lines}
use Rattle.entail_refused.specs.Readers.{reader_line}
use Rattle.entail_refused.specs.Remarked.{remarks_on}
use Rattle.entail_refused.specs.Sites.{Site, site_of}
use Rattle.entail_refused.specs.UnknownGuards.{guard_lines}

-- the entailment of a number at a place of a thread, of a program whose declarations keep the rules
abbrev pub entailment_in : (p : Program) → (t place number : ℕ) → Option PlacedEntailment
entailment_in p t place number = if all_hold (declaration_obligations p) then entailment_among (thread_entailments p t) place number else None

-- the text of the program is that of its places
module _ (p : Program) (bytes : List ℕ) where
  -- its goal, its hypotheses, each with where it comes from, and the certificate that the thread gives for it
  abbrev pub entailment_lines : (t : ℕ) → Option Site → PlacedEntailment → List ℕ
  entailment_lines t site g =
      entailment_text (variable_names p.vars) g.entailment.hyps (remarks_on (plain p) bytes site g.entailment.hyps) g.entailment.goal (cert_of (numbered p t).body g.place g.number)

  -- which guards around give no predicate; why it is asked, where that is since others may read a variable; where no certificate is given for it, for which entailments of the statement some are; what is found for it; and what is
  -- told of the point
  abbrev pub lines_of_finding : (t : ℕ) → Option Site → PlacedEntailment → Finding → List ℕ
  lines_of_finding t site g found = guard_lines (plain p) t bytes site ++ reader_line p t (is_shown found) site ++ given_lines p t found g ++ further_lines p t bytes site found g.entailment

  -- what is told of an entailment that is asked there
  abbrev pub lines_at_site : (t : ℕ) → Option Site → PlacedEntailment → List ℕ
  lines_at_site t site g =
      question_line p t g.place g.number ++ entailment_lines t site g ++ lines_of_finding t site g (found_for g.entailment.hyps g.entailment.goal)

  -- What is told of an entailment of a thread: what it asks, its lines, and those of what is found for it.
  abbrev pub lines_of_entailment : (t : ℕ) → Option PlacedEntailment → List ℕ
  lines_of_entailment t None = []
  lines_of_entailment t (Some g) = lines_at_site t (site_of p t g.place g.number) g

  -- the entailment of a number at a place, where the program has so many threads
  abbrev pub asked_of : (t place number : ℕ) → List ℕ
  asked_of t place number = if nat_lt t (length p.threads) then lines_of_entailment t (entailment_in p t place number) else []

  -- the entailment that a refusal for V9 names, by its thread, its place and its number
  abbrev pub unproved : (thread : Option ℕ) → (place : ℕ) → Detail → List ℕ
  unproved (Some t) place (Number n) = asked_of t place n
  unproved thread place detail = []

  -- what is told where a rule is broken: of V9 the entailment
  abbrev pub asked : Rule → (thread : Option ℕ) → (place : ℕ) → Detail → List ℕ
  asked V9 thread place detail = unproved thread place detail
  asked rule thread place detail = []
