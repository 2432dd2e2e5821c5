-- What is done with the words of a command line by the call of `check` alone.
use Rattle.std.specs.Prelude.{ℕ, List, [], ◌∷◌, Some, codes, if◌then◌else◌}
use Rattle.std.specs.Str.{bytes_eq}
use Rattle.call_inputs.specs.Plans.{Plan, does}
use Rattle.call_inputs.specs.Readings.{gives, tries}
use Rattle.call_inputs.specs.Rejections.{no_form}
use Rattle.call_judge.specs.Check.{check_plan}

-- what words ask for
pub data Asked : Type 0 where
  check : (name : List ℕ) → Asked
  nothing : Asked

-- words that ask for nothing are rejected before anything is read
abbrev pub plan_of : Asked → Plan
plan_of (check name) = check_plan name
plan_of nothing = does (tries (Some no_form) (gives (tt {0}))) (λ x reply. ⊥)

-- what a word asks of a file
abbrev pub of_one : (word name : List ℕ) → Asked
of_one word name = if bytes_eq word (codes "check") then check name else nothing

abbrev pub asked_by : (words : List (List ℕ)) → Asked
asked_by (word ∷ name ∷ []) = of_one word name
asked_by words = nothing

abbrev pub plan_for : (words : List (List ℕ)) → Plan
plan_for words = plan_of (asked_by words)
