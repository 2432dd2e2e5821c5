use Rattle.std.proofs.Common.{codes}
use Rattle.cov_expr.specs.View.{term}
use Rattle.cov_print.specs.Spelling.{whole}
use Rattle.refusal_names.proofs.LineLaws.{three_pieces}
use Rattle.refusal_names.proofs.added.add_guard.Goals as goal

pub returns : goal.returns
returns c =
    three_pieces c.extend_from_slice-2.result c.args.text.now (codes "  one too many is the guard or its negation: `") (whole c.args.names.now (term c.args.e.now)) (codes "`\n")
    c.extend_from_slice.new.self c.add_expr.new.out c.extend_from_slice-2.new.self
    c.in_ok-extend_from_slice.ensures.ok c.in_ok-add_expr.ensures c.extend_from_slice-2.ensures.ok
