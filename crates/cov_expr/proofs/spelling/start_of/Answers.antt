use Rattle.std.proofs.Common.{refl, arith}
use Rattle.cov_expr.specs.Inside.{start_of}
use Rattle.cov_expr.proofs.Spellings.{within, in_order}
use Rattle.cov_expr.proofs.spelling.start_of.Goals as goal

pub bounds-byte : goal.bounds-byte
bounds-byte c = omega (arith, c.requires)

pub returns-clause-start : goal.returns-clause-start
unfolding start_of
returns-clause-start c = refl

pub returns-clause-within : goal.returns-clause-within
unfolding start_of
returns-clause-within c = within c.args.byte c.requires

pub returns-clause-in_order : goal.returns-clause-in_order
unfolding start_of
returns-clause-in_order c h = in_order c.args.byte h
