use Rattle.cov_ast.specs.View as ast
use Rattle.cov_grammar.specs.Grammar.{program}
use Rattle.cov_grammar.proofs.TableLaws.{fine_program}
use Rattle.cov_text.specs.Limits.{in_program}
use Rattle.cov_text.specs.Text.{program_of}
use Rattle.cov_text.proofs.TextLaws.{only_is}
use Rattle.cov_text.proofs.ReadyLaws.{parsed_ready, parsed_in_order}
use Rattle.cov_parse.proofs.text.parse.Goals as goal

pub returns-clause-ready : goal.returns-clause-ready
returns-clause-ready c = parsed_ready c.args.bytes.now c.requires ast.parsed c.read_program_text.result c.read_program_text.ensures

pub returns-clause-in_order : goal.returns-clause-in_order
returns-clause-in_order c = parsed_in_order c.args.bytes.now c.requires ast.parsed c.read_program_text.result c.read_program_text.ensures

pub returns-clause-only : goal.returns-clause-only
returns-clause-only c tree is =
    only_is program in_program c.args.bytes.now ast.parsed (program_of c.args.bytes.now) fine_program tree is c.read_program_text.result c.read_program_text.ensures
