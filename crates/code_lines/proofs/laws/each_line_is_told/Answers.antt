use Rattle.code_lines.proofs.RowLaws.{lines_told, rows_told}
use Rattle.code_lines.proofs.laws.each_line_is_told.Goals as goal

pub returns-clause-lines : goal.returns-clause-lines
returns-clause-lines c = lines_told

pub returns-clause-positions : goal.returns-clause-positions
returns-clause-positions c = rows_told
