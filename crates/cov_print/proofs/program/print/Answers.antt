use Rattle.std.proofs.Common.{rules}
use Rattle.cov_ast.specs.View as view
use Rattle.cov_print.proofs.PrintLaws.{spells_again}
use Rattle.cov_print.proofs.program.print.Goals as goal

-- src/program.rt:46:1
pub returns-clause-read_back : goal.returns-clause-read_back
returns-clause-read_back c = spells_again (view.parsed c.args.p.now) c.add_program.new.out (search rules)
