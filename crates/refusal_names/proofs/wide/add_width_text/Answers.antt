use Rattle.std.proofs.Common.{codes, decimal}
use Rattle.refusal_names.proofs.LineLaws.{three_pieces}
use Rattle.refusal_names.proofs.wide.add_width_text.Goals as goal

pub returns : goal.returns
returns c =
    three_pieces c.extend_from_slice-2.result c.args.text.now (codes "  its width is ") (decimal c.args.many) (codes "\n")
    c.extend_from_slice.new.self c.add_number.new.text c.extend_from_slice-2.new.self
    c.in_ok-extend_from_slice.ensures.ok c.in_ok-add_number.ensures c.extend_from_slice-2.ensures.ok
