-- A certificate that a search finds for an entailment, and where it is to be written.
use Rattle.std.specs.Prelude.{ℕ, List, [], ◌∷◌, ◌++◌, Bool, true, false, Option, Some, None, codes, decimal, if◌then◌else◌}
use Rattle.cov_expr.specs.Term.{Term}
use Rattle.cov_ast.specs.Syntax.{Cert, Proof}
use Rattle.cov_ast.specs.Syntax as by
use Rattle.cov_print.specs.Spelling.{Names, cert}
use Rattle.entail_text.specs.Given.{cert_for}
use Rattle.entail_text.specs.BrokenLines.{broken_lines, neither_lines}
use Rattle.entail_text.specs.Findings.{Finding, shown, broken, neither}

abbrev pub is_auto : Cert → Bool
is_auto by.auto = true
is_auto c = false

-- a number and its certificate, as `by` gives them
abbrev pub entry : Names → (number : ℕ) → Cert → List ℕ
entry names number c = decimal number ++ codes ": " ++ cert names c

-- that the certificate of a number isn't needed
abbrev pub taken_away : (number : ℕ) → List ℕ
taken_away number = codes "take the certificate of " ++ decimal number ++ codes " away: `auto` shows it, which stands where none is given\n"

-- a certificate that replaces one, that is the first of a statement, and that is one more
abbrev pub replaced : Names → (number : ℕ) → Cert → List ℕ
replaced names number c = entry names number c ++ codes "\n                it is valid: write it in the place of the one that is given\n"

abbrev pub first : Names → (number : ℕ) → Cert → List ℕ
first names number c = codes "by { " ++ entry names number c ++ codes " }\n                it is valid: write it at the end of the statement, in front of its `;` if it has one; all of a statement stand in one `by`, with commas\n"

abbrev pub further : Names → (number : ℕ) → Cert → List ℕ
further names number c = codes ", " ++ entry names number c ++ codes "\n                it is valid: write it last in the `by` of the statement\n"

-- where it is to be written, by what a statement gives, and by the certificate among these for the number
abbrev pub written : Names → List Proof → Option Cert → (number : ℕ) → Cert → List ℕ
written names proofs (Some given) number c = replaced names number c
written names [] None number c = first names number c
written names (q ∷ qs) None number c = further names number c

-- what is to be done with a certificate that is found for the entailment of a number, in a statement that gives these
abbrev pub found_lines : Names → List Proof → (number : ℕ) → Cert → List ℕ
found_lines names proofs number c = if is_auto c then taken_away number else written names proofs (cert_for proofs number) number c

abbrev pub suggestion_line : Names → List Proof → (number : ℕ) → Cert → List ℕ
suggestion_line names proofs number c = codes "  suggestion:   " ++ found_lines names proofs number c

-- of the entailment of a number with this goal, for which this is found
abbrev pub finding_lines : Names → List Proof → (number : ℕ) → (goal : Term) → Finding → List ℕ
finding_lines names proofs number goal (shown c) = suggestion_line names proofs number c
finding_lines names proofs number goal (broken m) = broken_lines names goal m
finding_lines names proofs number goal neither = neither_lines goal
