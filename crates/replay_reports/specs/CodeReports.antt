-- The texts of reports on runs of code. They are those of runs of the program, but for where a thread stands.
use Rattle.std.specs.Prelude.{ℕ, List, ◌++◌, flat_map, Option, Some, None, option_map, codes, decimal}
use Rattle.cov_ast.specs.Syntax.{Thread, Program}
use Rattle.risc_machine.specs.Machine.{CodeState, line_of, position}
use Rattle.risc_machine.specs.declared.parts.Parts.{Parts}
use Rattle.call_reports.specs.Lines.{number_line}
use Rattle.replay_reports.specs.RunReports.{declaration_line, lines_from, lock_line, output_line, pair_line, var_line}

-- the position of a thread, if it isn't finished
abbrev pub next_position : Parts → CodeState → (t : ℕ) → Option ℕ
next_position c s t = option_map (λ line. position s t) (line_of c s t)

abbrev pub position_text : Option ℕ → List ℕ
position_text None = codes "done"
position_text (Some i) = codes "pc " ++ decimal i

-- a finished thread is done, and another is at a position, counted from 0
abbrev pub code_thread_line : Parts → CodeState → ℕ → Thread → List ℕ
code_thread_line c s t thread = declaration_line (codes "thread ") thread.name (position_text (next_position c s t))

-- the locks, the threads and the outputs of a state
abbrev pub code_state_lines : Program → Parts → CodeState → List ℕ
code_state_lines p c s =
    lines_from (lock_line p.threads s.holders) 0 p.locks ++ lines_from (code_thread_line c s) 0 p.threads ++ flat_map output_line s.outputs

-- the report on a run of so many steps, of which so many stayed, and on the state after it
abbrev pub code_report : Program → Parts → (steps stayed : ℕ) → CodeState → List ℕ
code_report p c steps stayed s =
    number_line (codes "steps ") steps ++ number_line (codes "stayed ") stayed ++ lines_from (var_line s.memory) 0 p.vars ++ code_state_lines p c s

-- the report on two runs that agree after each of so many steps; what else they agree on is told of the first
abbrev pub code_pair_report : Program → Parts → (steps : ℕ) → (left right : CodeState) → List ℕ
code_pair_report p c steps left right =
    codes "agree: " ++ decimal steps ++ codes " steps\n" ++ lines_from (pair_line left.memory right.memory) 0 p.vars ++ code_state_lines p c left
