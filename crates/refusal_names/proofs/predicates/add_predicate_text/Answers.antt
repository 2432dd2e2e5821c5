use Rattle.std.proofs.Common.{codes}
use Rattle.cov_expr.specs.View.{term}
use Rattle.cov_print.specs.Spelling.{name, whole}
use Rattle.refusal_names.proofs.LineLaws.{five_pieces}
use Rattle.refusal_names.proofs.predicates.add_predicate_text.Goals as goal

pub returns : goal.returns
returns c =
    five_pieces c.extend_from_slice-3.result c.args.text.now (codes "  the predicate `") (whole c.args.names.now (term c.args.e.now)) (codes "` has the variable ")
    c.extend_from_slice.new.self c.add_expr.new.out c.extend_from_slice-2.new.self
    c.in_ok-extend_from_slice.ensures.ok c.in_ok-add_expr.ensures
    (name c.args.names.now c.args.x) (codes ", which isn't stable here\n") c.add_variable.new.text c.extend_from_slice-3.new.self c.in_ok-extend_from_slice-2.ensures.ok c.in_ok-add_variable.ensures c.extend_from_slice-3.ensures.ok
