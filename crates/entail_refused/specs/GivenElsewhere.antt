-- For which entailments of a statement certificates are given, where none is given for one of them, which of them would show it, and what is found for it.
use Rattle.std.specs.Prelude.{ℕ, ◌==◌, List, [], ◌∷◌, ◌++◌, Bool, codes, decimal, flat_map, if◌then◌else◌, Option, Some, None}
use Rattle.std.specs.List.{list_any}
use Rattle.cov_ast.specs.Syntax.{Program, Proof}
use Rattle.cov_print.specs.Spelling.{Names}
use Rattle.entail_text.specs.OtherCertificates.{other_line}
use Rattle.entail_text.specs.Findings.{Finding}
use Rattle.entail_text.specs.Suggestions.{finding_lines}
use Rattle.mode_compat.specs.Compatible.{numbered}
use Rattle.statement_paths.specs.Paths.{Way, way_to}
use Rattle.text_parts.specs.VariableNames.{variable_names}
use Rattle.typing_law.specs.ThreadEntailments.{PlacedEntailment}

-- whether one is given for a number
abbrev pub is_given : List Proof → (number : ℕ) → Bool
is_given proofs number = list_any (λ q. q.number == number) proofs

abbrev pub number_text : Proof → List ℕ
number_text q = codes " " ++ decimal q.number

-- the numbers for which they are given, in the order of the text
abbrev pub numbers_line : List Proof → List ℕ
numbers_line [] = []
numbers_line (q ∷ qs) = codes "  given for:   " ++ flat_map number_text (q ∷ qs) ++ codes "\n"

-- the line of them, if none is given for this number and some are for others
abbrev pub line_without : (number : ℕ) → List Proof → List ℕ
line_without number proofs = if is_given proofs number then [] else numbers_line proofs

-- of an entailment of a statement with these proofs: that line, the certificate that would show it, if one does, and what is found
abbrev pub lines_of : Names → List Proof → Finding → PlacedEntailment → List ℕ
lines_of names proofs found g =
    line_without g.number proofs ++ other_line proofs g.number g.entailment.hyps g.entailment.goal
    ++ finding_lines names proofs g.number g.entailment.goal found

-- of the statement at the end of a way, if there is one
abbrev pub given_lines_of_way : Names → Option Way → Finding → PlacedEntailment → List ℕ
given_lines_of_way names None found g = []
given_lines_of_way names (Some w) found g = lines_of names w.proofs found g

-- of the statement of an entailment of a thread
abbrev pub given_lines : Program → (t : ℕ) → Finding → PlacedEntailment → List ℕ
given_lines p t found g = given_lines_of_way (variable_names p.vars) (way_to (numbered p t).body g.place) found g
