use Rattle.std.proofs.Common.{codes}
use Rattle.cov_print.specs.Spelling.{name}
use Rattle.refusal_names.proofs.LineLaws.{five_pieces}
use Rattle.refusal_names.proofs.types.add_class_text.Goals as goal

pub returns : goal.returns
returns c =
    five_pieces c.extend_from_slice-3.result c.args.text.now (codes "  no type is written by `as`, and the class of ") (name c.args.names.now c.args.y) (codes " has the control ")
    c.extend_from_slice.new.self c.add_variable.new.text c.extend_from_slice-2.new.self
    c.in_ok-extend_from_slice.ensures.ok c.in_ok-add_variable.ensures
    (name c.args.names.now c.args.control) (codes ", which isn't stable here\n") c.add_variable-2.new.text c.extend_from_slice-3.new.self c.in_ok-extend_from_slice-2.ensures.ok c.in_ok-add_variable-2.ensures c.extend_from_slice-3.ensures.ok
