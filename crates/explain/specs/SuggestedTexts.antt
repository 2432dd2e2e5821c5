-- What is told of a program for which certificates are searched: its canonical spelling with those that are found, and as comments behind it what is refused
-- first of that and which of the entailments that are tried are left unproved. Where its declarations aren't in order, that is explained. Those that the deeper
-- search finds are put in first, and behind that what `annotate` finds for the rest.
use Rattle.std.specs.Prelude.{ℕ, List, [], ◌++◌, flat_map, codes, Option, Some, None}
use Rattle.annotate.specs.Annotated.{first_refused, unproved}
use Rattle.annotate.specs.AnnotatedText.{annotated_text}
use Rattle.annotate.specs.declared.outcome.Open.{Open}
use Rattle.call_judge.specs.Check.{name_in}
use Rattle.call_reports.specs.Replies.{refused}
use Rattle.call_reports.specs.Reports.{report_of}
use Rattle.call_reports.specs.declared.answers.Status.{Status}
use Rattle.call_reports.specs.declared.answers.Status.TheVariants as s
use Rattle.call_verdicts.specs.Annotations.{unproved_line}
use Rattle.cert_search.specs.declared.finder.TheConstants.{MOST_DEPTH}
use Rattle.cov_ast.specs.Obligations.{first_false}
use Rattle.cov_ast.specs.Syntax.{Parsed, Thread}
use Rattle.cov_ast.specs.declared.refusal.Refusal.{Refusal}
use Rattle.cov_print.specs.Spelling.{spelling}
use Rattle.deeper_text.specs.DeeperText.{deeper_text}
use Rattle.explain.specs.LevelTellings.{refused_lines, unnamed_lines}
use Rattle.mode_compat.specs.Declared.{declaration_obligations}
use Rattle.policy_class.specs.Resolved.{name_obligations, resolved}

-- an entailment that is left unproved, as a comment
abbrev pub open_comment : List Thread → Open → List ℕ
open_comment threads g = codes "// " ++ unproved_line threads g

-- a comment for each
abbrev pub open_comments : List Thread → List Open → List ℕ
open_comments threads gs = flat_map (open_comment threads) gs

-- a refusal of the text with what is found, as a comment
abbrev pub refused_comment : List Thread → Refusal → List ℕ
refused_comment threads r = codes "// " ++ report_of (refused r (name_in threads r.thread))

-- that, and what is left unproved
abbrev pub closing_comments : List Thread → Refusal → List Open → List ℕ
closing_comments threads r gs = refused_comment threads r ++ open_comments threads gs

abbrev pub closing : List Thread → Option Refusal → List Open → List ℕ
closing threads None gs = []
closing threads (Some r) gs = closing_comments threads r gs

-- the text with what is found by the search of the greatest depth, and the comments behind it
abbrev pub annotated_lines : List Thread → Parsed → List ℕ
annotated_lines threads p = spelling (annotated_text MOST_DEPTH p) ++ closing threads (first_refused MOST_DEPTH (resolved p)) (unproved MOST_DEPTH (resolved p))

-- the same of the text with what the deeper search finds
abbrev pub searched_lines : Parsed → List ℕ
searched_lines p = annotated_lines (resolved p).threads (deeper_text p)

-- what is told, by the first obligation of the declarations that doesn't hold, and by the first of the names
abbrev pub declared_lines : (name bytes : List ℕ) → Parsed → Option Refusal → List ℕ
declared_lines name bytes p (Some r) = refused_lines name bytes (resolved p) r
declared_lines name bytes p None = searched_lines p

abbrev pub named_lines : (name bytes : List ℕ) → Parsed → Option Refusal → List ℕ
named_lines name bytes p (Some r) = unnamed_lines name bytes p r
named_lines name bytes p None = declared_lines name bytes p (first_false (declaration_obligations (resolved p)))

-- what is told of a text that bytes spell
abbrev pub suggested_lines : (name bytes : List ℕ) → Parsed → List ℕ
suggested_lines name bytes p = named_lines name bytes p (first_false (name_obligations p))

-- The status --------------------------------------------------------------------------------------------------

-- by what is refused first, if anything is
abbrev pub status_by : Option Refusal → Status → Status
status_by (Some r) otherwise = s.Refused
status_by None otherwise = otherwise

-- of what a search comes to
abbrev pub searched_status : Parsed → Status
searched_status p = status_by (first_refused MOST_DEPTH (resolved (deeper_text p))) s.Done

-- of a text whose names are in order, and of any
abbrev pub declared_status : Parsed → Status
declared_status p = status_by (first_false (declaration_obligations (resolved p))) (searched_status p)

abbrev pub suggested_status : Parsed → Status
suggested_status p = status_by (first_false (name_obligations p)) (declared_status p)
