-- V13: what is wrong with a number in `by`: the statement has no entailment of that number, or it is given more than once.
use Rattle.std.specs.Prelude.{◌≡◌, ◌⊎◌, ◌≤◌, ℕ, ◌==◌, ◌&&◌, nat_le, List, [], ◌++◌, false, codes, decimal, count_by, if◌then◌else◌}
use Rattle.cov_ast.specs.Syntax.{Proof}
use Rattle.cov_ast.specs.declared.refusal.Detail.{Detail}
use Rattle.cov_ast.specs.declared.refusal.Detail.TheVariants.{Number}

-- how many proofs have a number
abbrev pub times_given : List Proof → (n : ℕ) → ℕ
times_given proofs n = count_by (λ q. q.number == n) proofs

abbrev pub repeated_text : (n : ℕ) → List ℕ
repeated_text n = codes "  " ++ decimal n ++ codes " is given more than once\n"

-- of a number, if it is given more than once
abbrev pub repeated_line : List Proof → (n : ℕ) → List ℕ
repeated_line proofs n = if nat_le 2 (times_given proofs n) then repeated_text n else []

-- why a number may be that of none
abbrev pub moved_words : List ℕ
moved_words = codes ": where it lists a predicate or a type more or less, numbers move\n"

-- how many entailments there are
abbrev pub many_words : (count : ℕ) → List ℕ
many_words count = decimal count ++ (codes " entailments" ++ moved_words)

abbrev pub count_words : (count : ℕ) → List ℕ
count_words count = if count == 0 then codes "no entailments\n" else if count == 1 then codes "1 entailment" ++ moved_words else many_words count

abbrev pub count_text : (count : ℕ) → List ℕ
count_text count = codes "  the statement has " ++ count_words count

-- of a number, where there are so many entailments
abbrev pub number_line : (count : ℕ) → List Proof → (n : ℕ) → List ℕ
number_line count proofs n = if nat_le 1 n && nat_le n count then repeated_line proofs n else count_text count

-- the same of what a refusal shows
abbrev pub shown_number : (count : ℕ) → List Proof → Detail → List ℕ
shown_number count proofs (Number n) = number_line count proofs n
shown_number count proofs detail = []

-- What it tells of ---------------------------------------------------------------------------------------------

-- where there are so many entailments, of a number
module _ (count : ℕ) (proofs : List Proof) (n : ℕ) where
  -- a text tells how many there are, and no entailment has the number
  pub record IsOfCount (text : List ℕ) : Type 0 where
    pub past : (nat_le 1 n && nat_le n count) ≡ false
    pub told : text ≡ count_text count

  -- a text tells that the number is given more than once, and it is
  pub record IsOfRepeated (text : List ℕ) : Type 0 where
    pub many : 2 ≤ times_given proofs n
    pub told : text ≡ repeated_text n

  abbrev pub TellsWhatIsWrong : (text : List ℕ) → Type 0
  TellsWhatIsWrong text = IsOfCount text ⊎ IsOfRepeated text
