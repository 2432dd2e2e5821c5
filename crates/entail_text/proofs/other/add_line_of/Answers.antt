use Rattle.std.proofs.Common.{codes, decimal}
use Rattle.entail_text.specs.OtherCertificates.{end_text}
use Rattle.entail_text.proofs.Pieces.{three_added}
use Rattle.entail_text.proofs.other.add_line_of.Goals as goal

pub returns : goal.returns
returns c =
    three_added c.extend_from_slice-2.result c.args.text.now (codes "  the certificate that is given for ") (decimal c.args.number) end_text c.extend_from_slice.new.self c.add_number.new.text
    c.extend_from_slice-2.new.self c.in_ok-extend_from_slice.ensures.ok c.in_ok-add_number.ensures c.extend_from_slice-2.ensures.ok
