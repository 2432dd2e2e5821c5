use Rattle.std.proofs.Common.{arith}
use Rattle.cov_expr.proofs.WordBytes.{word_byte}
use Rattle.cov_expr.proofs.byte.is_word.Goals as goal

pub returns : goal.returns
returns c = word_byte c.args.byte (omega arith)
