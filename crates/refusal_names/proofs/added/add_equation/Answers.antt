use Rattle.std.proofs.Common.{codes, true}
use Rattle.cov_expr.specs.View.{term}
use Rattle.cov_print.specs.Spelling.{expr, name}
use Rattle.refusal_names.proofs.LineLaws.{five_pieces}
use Rattle.refusal_names.proofs.added.add_equation.Goals as goal

pub returns : goal.returns
returns c =
    five_pieces c.extend_from_slice-3.result c.args.text.now (codes "  one too many is the equation `") (name c.args.names.now c.args.x) (codes " == ")
    c.extend_from_slice.new.self c.add_variable.new.text c.extend_from_slice-2.new.self
    c.in_ok-extend_from_slice.ensures.ok c.in_ok-add_variable.ensures
    (expr c.args.names.now true (term c.args.e.now)) (codes "`\n") c.add_expr.new.out c.extend_from_slice-3.new.self c.in_ok-extend_from_slice-2.ensures.ok c.in_ok-add_expr.ensures c.extend_from_slice-3.ensures.ok
