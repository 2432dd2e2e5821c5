-- The texts of reports on runs.
use Rattle.std.specs.Prelude.{ℕ, ◌+◌, List, [], ◌∷◌, ◌++◌, flat_map, get_or, Bool, if◌then◌else◌, Option, Some, None, codes, decimal}
use Rattle.cov_ast.specs.Syntax.{Var, Lock, Thread, Program}
use Rattle.call_reports.specs.Differences.{name_at}
use Rattle.call_reports.specs.Lines.{number_line}
use Rattle.flow_model.specs.Source.{Holders, holder, Run, items_of, first_place}

-- Lines --------------------------------------------------------------------------------------------------------

-- the lines of declarations, each with its number
module _ {A : Type 0} (line : ℕ → A → List ℕ) where
  abbrev pub lines_from : (number : ℕ) → List A → List ℕ
  lines_from number [] = []
  lines_from number (x ∷ xs) = line number x ++ lines_from (number + 1) xs

-- a line on a declaration: of what kind it is, its name, and what is told of it
abbrev pub declaration_line : (kind name what : List ℕ) → List ℕ
declaration_line kind name what = kind ++ name ++ codes " " ++ what ++ codes "\n"

-- States -------------------------------------------------------------------------------------------------------

abbrev pub holder_text : List Thread → Option ℕ → List ℕ
holder_text threads None = codes "free"
holder_text threads (Some t) = name_at threads t

abbrev pub place_text : Option ℕ → List ℕ
place_text None = codes "done"
place_text (Some at) = codes "at " ++ decimal at

abbrev pub var_line : (memory : List ℕ) → ℕ → Var → List ℕ
var_line memory x var = declaration_line (codes "var ") var.name (decimal (get_or memory x 0))

abbrev pub pair_line : (left right : List ℕ) → ℕ → Var → List ℕ
pair_line left right x var = declaration_line (codes "var ") var.name (decimal (get_or left x 0) ++ codes " " ++ decimal (get_or right x 0))

abbrev pub lock_line : List Thread → Holders → ℕ → Lock → List ℕ
lock_line threads holders l lock = declaration_line (codes "lock ") lock.name (holder_text threads (holder holders l))

-- a finished thread is done, and another is at the place of its statement
abbrev pub thread_line : Run → ℕ → Thread → List ℕ
thread_line state t thread = declaration_line (codes "thread ") thread.name (place_text (first_place (items_of state t)))

abbrev pub output_line : ℕ → List ℕ
output_line word = number_line (codes "output ") word

-- the locks, the threads and the outputs of a state
abbrev pub state_lines : Program → Run → List ℕ
state_lines p state =
    lines_from (lock_line p.threads state.holders) 0 p.locks ++ lines_from (thread_line state) 0 p.threads ++ flat_map output_line state.outputs

-- Reports ------------------------------------------------------------------------------------------------------

-- the report on a run of so many steps, of which so many stayed, and on the state after it
abbrev pub run_report : Program → (steps stayed : ℕ) → Run → List ℕ
run_report p steps stayed state =
    number_line (codes "steps ") steps ++ number_line (codes "stayed ") stayed ++ lines_from (var_line state.memory) 0 p.vars ++ state_lines p state

-- how a run ended that was to stop where an expression holds
abbrev pub stop_line : (hit : Bool) → (steps : ℕ) → List ℕ
stop_line hit steps = if hit then number_line (codes "stopped after ") steps else codes "not reached\n"

-- the report on two runs that agree after each of so many steps; what else they agree on is told of the first
abbrev pub pair_report : Program → (steps : ℕ) → (left right : Run) → List ℕ
pair_report p steps left right =
    codes "agree: " ++ decimal steps ++ codes " steps\n" ++ lines_from (pair_line left.memory right.memory) 0 p.vars ++ state_lines p left
