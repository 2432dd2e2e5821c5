use Rattle.std.proofs.Common.{map, ◌++◌}
use Rattle.cov_expr.specs.View.{term}
use Rattle.entail_range.specs.Range.{lent}
use Rattle.entail_cert.proofs.Conditions.{range_told_if_ok}
use Rattle.entail_cert.proofs.arithmetic.is_range.Goals as goal

pub returns : goal.returns
returns c =
    range_told_if_ok (map term c.args.given.now ++ map lent c.args.added.now) (term c.args.goal.now) c.range_valid_indexed.result
    c.range_valid_indexed.ensures.test c.range_valid_indexed.ensures.words
