use Rattle.code_lines.proofs.MadeLaws.{none_behind, shares_made}
use Rattle.code_lines.proofs.laws.compiled_lines_are_of_their_statements.Goals as goal

pub returns-clause-shares : goal.returns-clause-shares
returns-clause-shares c = shares_made

pub returns-clause-none_left : goal.returns-clause-none_left
returns-clause-none_left c = none_behind
