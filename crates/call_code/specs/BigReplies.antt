-- `big`: what is replied to the program of a number of rounds and a schedule.
use Rattle.std.specs.Prelude.{◌≡◌, ℕ, List, ◌++◌, length, map, codes, if◌then◌else◌}
use Rattle.std.specs.Str.{bytes_eq}
use Rattle.replay_inputs.specs.Inputs.{PairInput}
use Rattle.call_inputs.specs.Plans.{Plan, does}
use Rattle.call_inputs.specs.Programs.{IsShownFault, SpellsProgram}
use Rattle.call_inputs.specs.Readings.{Reading, argument, gives, then_read}
use Rattle.replay_inputs.specs.Steps as step
use Rattle.call_reports.specs.Replies.{Reply, ran}
use Rattle.cov_ast.specs.Plain.{plain}
use Rattle.cov_ast.specs.Syntax.{Parsed, Program, Var}
use Rattle.cov_gen.specs.Big as gen
use Rattle.flow_model.specs.Source.{after, begin, stayed}
use Rattle.policy_class.specs.Resolved.{resolved}
use Rattle.risc_machine.specs.declared.parts.Parts.{Parts}
use Rattle.schedule_replay.specs.CodeReplays.{CodeAgreesThroughout}
use Rattle.schedule_replay.specs.Replays.{AgreeThroughout}
use Rattle.call_code.specs.Codes.{accepted_pair, code_end, code_of, code_start}
use Rattle.call_code.specs.Summaries.{code_part, head, source_part}
use Rattle.call_judge.specs.Check.{accepted_with, totals}

-- Starts -------------------------------------------------------------------------------------------------------

-- the start of a program in which the variable with the name `k`, the secret, has a word, and every other one is 0
abbrev pub start_with : (word : ℕ) → List Var → List ℕ
start_with word vars = map (λ v. if bytes_eq v.name (codes "k") then word else 0) vars

-- what the two runs take of what a text spells and of a schedule: their starts differ in the secret
abbrev pub starts_with_secrets : Parsed → (schedule : List ℕ) → PairInput
starts_with_secrets p schedule = record { program = p; left = start_with 1 p.vars; right = start_with 2 p.vars; schedule = schedule }

-- Replies ------------------------------------------------------------------------------------------------------

-- what is told of two runs of a program from two memories under a schedule
abbrev pub source_summary : Program → (left right schedule : List ℕ) → List ℕ
source_summary p left right schedule =
    source_part p (length schedule) (stayed (plain p) left schedule) (after (plain p) left schedule) (after (plain p) right schedule)

-- what is told of two runs of its code from there
abbrev pub code_summary : Program → Parts → (left right schedule : List ℕ) → List ℕ
code_summary p c left right schedule = code_part p (length schedule) (code_end c left schedule) (code_end c right schedule)

-- The runs of a program from two memories agree after each step of a schedule, and so do those of its code.
pub record AllRunTogether (rounds : ℕ) (p : Program) (c : Parts) (left right schedule : List ℕ) (reply : Reply) : Type 0 where
  pub agree : AgreeThroughout (plain p) (begin (plain p) left) (begin (plain p) right) schedule
  pub code_agree : CodeAgreesThroughout (plain p) c (code_start c left) (code_start c right) schedule
  pub is : reply ≡ ran (head rounds (accepted_with (totals p)) ++ source_summary p left right schedule ++ code_summary p c left right schedule)

-- the reply to four runs of a program that is accepted, from fit starts: they never differ
abbrev pub SumsUp : (rounds : ℕ) → PairInput → Reply → Type 0
SumsUp rounds i reply = AllRunTogether rounds (resolved i.program) (code_of i.program) i.left i.right i.schedule reply

-- Plans --------------------------------------------------------------------------------------------------------

-- the program of so many rounds, whose text is made and not fetched; its title is `big`
abbrev pub made : (rounds : ℕ) → Reading Parsed
made rounds = argument (codes "big") (gen.big rounds) SpellsProgram IsShownFault (λ p. gives p)

-- this program, two starts of it, and a schedule
abbrev pub made_input : (rounds : ℕ) (schedule : List ℕ) → Reading PairInput
made_input rounds schedule =
    then_read (made rounds) (λ p. then_read (step.entries p schedule) (λ k. gives (starts_with_secrets p k)))

-- what `big` does
abbrev pub big_plan : (rounds : ℕ) (schedule : List ℕ) → Plan
big_plan rounds schedule = does (then_read (made_input rounds schedule) accepted_pair) (SumsUp rounds)
