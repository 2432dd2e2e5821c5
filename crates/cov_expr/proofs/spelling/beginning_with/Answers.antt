use Rattle.std.proofs.Common.{arith}
use Rattle.cov_expr.proofs.Spellings.{found_there, none_from, row_count}
use Rattle.cov_expr.proofs.spelling.beginning_with.Goals as goal

pub returns-then-first-ge128 : goal.returns-then-first-ge128
returns-then-first-ge128 c rest = none_from c.args.first rest c.if-first-ge128.true

pub returns : goal.returns
returns c rest = found_there c.args.first rest c.args.all.now c.start_of-start.result c.start_of-end.result c.requires c.start_of-start.ensures.start c.start_of-end.ensures.start c.if-first-ge128.false

pub slice_bounds-result-end-2 : goal.slice_bounds-result-end-2
slice_bounds-result-end-2 c = omega (arith, row_count c.args.all.now c.requires, c.start_of-end.ensures.within)
