use Rattle.std.proofs.Common.{◌∙◌, ap}
use Rattle.std.specs.List.{list_all}
use Rattle.cov_expr.specs.Bytes.{is_digit}
use Rattle.cov_lex.proofs.Pieces.{run_passes}
use Rattle.cov_lex.proofs.piece.front.Goals as goal

pub number-requires : goal.number-requires
number-requires c = ap (list_all is_digit) c.run-then-is_digit.ensures ∙ run_passes is_digit c.args.bytes.now
