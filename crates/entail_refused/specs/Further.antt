-- What is told of the point of which an entailment asks, beside its hypotheses, where no certificate is found for it.
use Rattle.std.specs.Prelude.{ℕ, List, [], ◌++◌, if◌then◌else◌, Option, Some, None}
use Rattle.cov_ast.specs.Plain.{plain}
use Rattle.cov_ast.specs.Syntax.{Program}
use Rattle.entail_text.specs.Findings.{Finding, is_shown}
use Rattle.typing_law.specs.Entailments.{Entailment}
use Rattle.entail_losses.specs.Losses.{losses}
use Rattle.entail_origins.specs.TypeLines.{type_lines}
use Rattle.entail_refused.specs.AskedBy.{asked_by}
use Rattle.entail_refused.specs.Cleared.{cleared_line}
use Rattle.entail_refused.specs.InvariantsWithout.{invariant_lines}
use Rattle.entail_refused.specs.Noted.{noted_line}
use Rattle.entail_refused.specs.Remarked.{asked_of, known_of}
use Rattle.entail_refused.specs.Sites.{Site}
use Rattle.entail_refused.specs.Unstored.{unstored_line}

-- which declaration asks, what is mostly done, where the types come from that make up the goal, what could be noted in front, to which
-- variables nothing is stored, and which of what was lost on the way would help
abbrev pub further_at : Program → (t : ℕ) → (bytes : List ℕ) → Site → Entailment → List ℕ
further_at p t bytes s g =
    asked_by bytes p (asked_of s.question g.hyps) s.question ++ cleared_line p t s.steps s.question ++ type_lines (plain p) t bytes s.steps s.question s.stm
    ++ noted_line (plain p) t bytes s g.goal ++ invariant_lines p bytes g.hyps s.question g.goal ++ unstored_line p t s g.hyps g.goal ++ losses p t bytes s.steps (known_of s.question g.hyps) g.hyps g.goal

-- nothing where a certificate is found
abbrev pub unless_shown : Program → (t : ℕ) → (bytes : List ℕ) → Site → Finding → Entailment → List ℕ
unless_shown p t bytes s found g = if is_shown found then [] else further_at p t bytes s g

-- nothing where it isn't known where that is
abbrev pub further_lines : Program → (t : ℕ) → (bytes : List ℕ) → Option Site → Finding → Entailment → List ℕ
further_lines p t bytes None found g = []
further_lines p t bytes (Some s) found g = unless_shown p t bytes s found g
