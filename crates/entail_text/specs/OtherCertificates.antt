-- Whether a certificate that a statement gives for another number would show an entailment: so it is where one is wanted for both, or numbers
-- have moved.
use Rattle.std.specs.Prelude.{ℕ, ◌==◌, ◌&&◌, not, List, [], ◌∷◌, ◌++◌, codes, decimal, if◌then◌else◌, Option, Some, None}
use Rattle.cov_expr.specs.Term.{Term}
use Rattle.cov_ast.specs.Syntax.{Proof}
use Rattle.entail_cert.specs.Valid.{is_valid}

-- the other number for which the first certificate is given that is valid for the entailment of a number
abbrev pub first_valid : List Proof → (number : ℕ) → (hyps : List Term) → (goal : Term) → Option ℕ
first_valid [] number hyps goal = None
first_valid (q ∷ qs) number hyps goal =
    if not (q.number == number) && is_valid hyps goal q.cert then Some q.number else first_valid qs number hyps goal

-- what stands behind the number
abbrev pub end_text : List ℕ
end_text = codes " would show it: one is wanted here too, or numbers have moved\n"

abbrev pub line_of : (n : ℕ) → List ℕ
line_of n = codes "  the certificate that is given for " ++ decimal n ++ end_text

abbrev pub number_line : Option ℕ → List ℕ
number_line None = []
number_line (Some n) = line_of n

-- the line of it, if there is one
abbrev pub other_line : List Proof → (number : ℕ) → (hyps : List Term) → (goal : Term) → List ℕ
other_line proofs number hyps goal = number_line (first_valid proofs number hyps goal)
