-- The texts of summaries of runs: of two of a program, and of two of its code.
use Rattle.std.specs.Prelude.{ℕ, List, ◌++◌, codes, decimal}
use Rattle.cov_ast.specs.Syntax.{Program}
use Rattle.flow_model.specs.Source.{Run}
use Rattle.risc_machine.specs.Machine.{CodeState}
use Rattle.call_reports.specs.Replies.{Reply}
use Rattle.call_reports.specs.Reports.{report_of}
use Rattle.call_reports.specs.Lines.{number_line}
use Rattle.replay_reports.specs.RunReports.{lines_from, pair_line}

-- the number of rounds, and the line of a check that accepts the program
abbrev pub head : (rounds : ℕ) → (line : Reply) → List ℕ
head rounds line = number_line (codes "big ") rounds ++ report_of line

-- the line that two runs agree after each of so many steps
abbrev pub agreement : (which : List ℕ) → (steps : ℕ) → List ℕ
agreement which steps = which ++ decimal steps ++ codes " steps\n"

-- that two runs of a program agree after each of so many steps, and how often the first stayed
abbrev pub source_head : (steps stayed : ℕ) → List ℕ
source_head steps stayed = agreement (codes "source agrees: ") steps ++ number_line (codes "stayed ") stayed

-- two runs of a program, of which the first stayed so often
abbrev pub source_part : Program → (steps stayed : ℕ) → (left right : Run) → List ℕ
source_part p steps stayed left right = source_head steps stayed ++ lines_from (pair_line left.memory right.memory) 0 p.vars

-- two runs of its code
abbrev pub code_part : Program → (steps : ℕ) → (left right : CodeState) → List ℕ
code_part p steps left right = agreement (codes "code agrees: ") steps ++ lines_from (pair_line left.memory right.memory) 0 p.vars
