-- The commands: what each does, in one row, and which one the words of a command line are.
use Rattle.std.specs.Prelude.{ℕ, ◌==◌, List, [], ◌∷◌, get_or, length, nat_le, Bool, ◌&&◌, Option, Some, None, codes, decimal, if◌then◌else◌}
use Rattle.std.specs.Str.{bytes_eq}
use Rattle.std.specs.Str.Parse.{digits_value}
use Rattle.call_code.specs.BigReplies.{big_plan}
use Rattle.call_code.specs.Codes.{compile_plan}
use Rattle.call_code.specs.Objects.{object_plan, unobject_plan}
use Rattle.call_inputs.specs.Plans.{Plan, does}
use Rattle.call_inputs.specs.Readings.{gives, tries}
use Rattle.call_inputs.specs.Rejections.{no_form}
use Rattle.call_judge.specs.Check.{check_plan}
use Rattle.call_run.specs.Pairs.{pair_plan}
use Rattle.call_run.specs.Refutes.{refute_plan}
use Rattle.call_run.specs.Runs.{run_plan, run_until_plan}
use Rattle.call_code.specs.CodeRuns.{pair_code_plan, run_code_plan}
use Rattle.call_text.specs.Format.{fmt_plan, migrate_plan}
use Rattle.call_verdicts.specs.Annotations.{annotate_plan}
use Rattle.call_verdicts.specs.Levels.{levels_plan}
use Rattle.call_verdicts.specs.Swap.{swap_plan}
use Rattle.cov_expr.specs.declared.limits.TheConstants.{MOST_EXPRESSION_BYTES, MOST_ROUNDS, MOST_TRIALS}
use Rattle.thread_swap.specs.Judges.{Judging}

-- a command, with the words that it takes: names of files, an expression, a number of rounds or of trials, and the depth of a search
pub data Command : Type 0 where
  check : (name : List ℕ) → Command
  compile : (name : List ℕ) → Command
  fmt : (name : List ℕ) → Command
  migrate : (name : List ℕ) → Command
  object : (name : List ℕ) → Command
  unobject : (name : List ℕ) → Command
  refute : (name : List ℕ) (trials : ℕ) → Command
  run : (program start schedule : List ℕ) → Command
  run_code : (program start schedule : List ℕ) → Command
  run_until : (program start schedule expression : List ℕ) → Command
  pair : (program first second schedule : List ℕ) → Command
  pair_code : (program first second schedule : List ℕ) → Command
  big : (rounds : ℕ) (schedule : List ℕ) → Command
  levels : (name over : List ℕ) → Command
  annotate : (name : List ℕ) (depth : ℕ) → Command
  swap : (name replacing : List ℕ) → Command
  nothing : Command

-- what each command does, of `swap` by what a judge says; words of none of the forms are rejected before anything is read
abbrev pub plan_of : Judging → Command → Plan
plan_of j (check name) = check_plan name
plan_of j (compile name) = compile_plan name
plan_of j (fmt name) = fmt_plan name
plan_of j (migrate name) = migrate_plan name
plan_of j (object name) = object_plan name
plan_of j (unobject name) = unobject_plan name
plan_of j (refute name trials) = refute_plan name trials
plan_of j (run name start schedule) = run_plan name start schedule
plan_of j (run_code name start schedule) = run_code_plan name start schedule
plan_of j (run_until name start schedule word) = run_until_plan name start schedule word
plan_of j (pair name first second schedule) = pair_plan name first second schedule
plan_of j (pair_code name first second schedule) = pair_code_plan name first second schedule
plan_of j (big rounds schedule) = big_plan rounds schedule
plan_of j (levels name over) = levels_plan name over
plan_of j (annotate name depth) = annotate_plan name depth
plan_of j (swap name replacing) = swap_plan j name replacing
plan_of j nothing = does (tries (Some no_form) (gives (tt {0}))) (λ x reply. ⊥)

-- Words ----------------------------------------------------------------------------------------------------------

-- the commands of one file
abbrev pub of_one : (word name : List ℕ) → Command
of_one word name =
    if bytes_eq word (codes "check") then check name
    else (if bytes_eq word (codes "compile") then compile name
    else (if bytes_eq word (codes "fmt") then fmt name
    else (if bytes_eq word (codes "migrate") then migrate name
    else (if bytes_eq word (codes "object") then object name
    else (if bytes_eq word (codes "unobject") then unobject name else nothing)))))

-- whether a number is from 1 to a most, and a word spells it in decimal without leading zeros
abbrev pub is_number : (most : ℕ) (word : List ℕ) → ℕ → Bool
is_number most word n = nat_le 1 n && (nat_le n most && bytes_eq word (decimal n))

-- the number from 1 to a most that a word spells, if it spells one
abbrev pub number_of : (most : ℕ) → List ℕ → Option ℕ
number_of most word = if is_number most word (digits_value 10 word) then Some (digits_value 10 word) else None

abbrev pub of_rounds : Option ℕ → (schedule : List ℕ) → Command
of_rounds (Some rounds) schedule = big rounds schedule
of_rounds None schedule = nothing

abbrev pub of_trials : (name : List ℕ) → Option ℕ → Command
of_trials name (Some trials) = refute name trials
of_trials name None = nothing

-- the depth of a search that a word spells, if it spells one
abbrev pub depth_of : List ℕ → Option ℕ
depth_of word =
    if bytes_eq word (codes "0") then Some 0
    else (if bytes_eq word (codes "1") then Some 1
    else (if bytes_eq word (codes "2") then Some 2 else None))

abbrev pub of_depth : (name : List ℕ) → Option ℕ → Command
of_depth name (Some depth) = annotate name depth
of_depth name None = nothing

-- the commands of two files, or of a number and a file, in this order or the other
abbrev pub of_two : (word first second : List ℕ) → Command
of_two word first second =
    if bytes_eq word (codes "big") then of_rounds (number_of MOST_ROUNDS first) second
    else (if bytes_eq word (codes "refute") then of_trials first (number_of MOST_TRIALS second)
    else (if bytes_eq word (codes "levels") then levels first second
    else (if bytes_eq word (codes "annotate") then of_depth first (depth_of second) else nothing)))

-- the commands of three files
abbrev pub of_three : (word program start schedule : List ℕ) → Command
of_three word program start schedule =
    if bytes_eq word (codes "run") then run program start schedule
    else (if bytes_eq word (codes "run-code") then run_code program start schedule else nothing)

-- the commands of four words; an expression is of so many bytes at most
abbrev pub of_four : (word program start next last : List ℕ) → Command
of_four word program start next last =
    if bytes_eq word (codes "run-until") then (if nat_le (length last) MOST_EXPRESSION_BYTES then run_until program start next last else nothing)
    else (if bytes_eq word (codes "pair") then pair program start next last
    else (if bytes_eq word (codes "pair-code") then pair_code program start next last else nothing))

-- the command that asks no judge, of the words behind the program's name, and nothing where they have none of the forms
abbrev pub unjudged : List (List ℕ) → Command
unjudged (word ∷ name ∷ []) = of_one word name
unjudged (word ∷ first ∷ second ∷ []) = of_two word first second
unjudged (word ∷ program ∷ start ∷ schedule ∷ []) = of_three word program start schedule
unjudged (word ∷ program ∷ start ∷ next ∷ last ∷ []) = of_four word program start next last
unjudged words = nothing

-- whether the words are those of `swap`, with two files
abbrev pub is_swap : List (List ℕ) → Bool
is_swap words = length words == 3 && bytes_eq (get_or words 0 []) (codes "swap")

-- the command of the words
abbrev pub command_of : List (List ℕ) → Command
command_of words = if is_swap words then swap (get_or words 1 []) (get_or words 2 []) else unjudged words
