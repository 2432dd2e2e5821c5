use Rattle.std.proofs.Common.{refl}
use Rattle.cov_grammar.specs.Grammar.{whole}
use Rattle.cov_text.specs.Limits.{in_expr}
use Rattle.cov_text.specs.Text.{expression_of}
use Rattle.cov_parse.specs.Reads.{parsed_expr}
use Rattle.cov_text.proofs.TextLaws.{only_is}
use Rattle.cov_text.proofs.ReadyLaws.{parsed_below, parsed_used, parsed_expr_uses}
use Rattle.cov_parse.proofs.text.parse_expr.Goals as goal

pub returns-clause-below : goal.returns-clause-below
returns-clause-below c = parsed_below c.args.bytes.now c.requires parsed_expr c.read_expr_text.result c.read_expr_text.ensures

pub returns-clause-used : goal.returns-clause-used
returns-clause-used c = parsed_used c.args.bytes.now parsed_expr c.read_expr_text.result c.read_expr_text.ensures

pub returns-clause-in_order : goal.returns-clause-in_order
returns-clause-in_order c = parsed_expr_uses c.args.bytes.now c.requires parsed_expr c.read_expr_text.result c.read_expr_text.ensures

pub returns-clause-only : goal.returns-clause-only
returns-clause-only c tree is =
    only_is whole in_expr c.args.bytes.now parsed_expr (expression_of c.args.bytes.now) refl tree is c.read_expr_text.result c.read_expr_text.ensures
