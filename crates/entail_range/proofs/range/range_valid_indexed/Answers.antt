use Rattle.std.proofs.Common.{map, ◌++◌, sym, ◌∙◌}
use Rattle.cov_expr.specs.View.{term}
use Rattle.entail_range.specs.Range.{lent}
use Rattle.entail_range.proofs.Sound.{range_sound}
use Rattle.entail_range.proofs.range.range_valid_indexed.Goals as goal

pub returns-clause-entails : goal.returns-clause-entails
returns-clause-entails c =
    let test = rw c.in_ok-indexed.ensures.list at c.is_given.ensures.test in
    λ v. range_sound (map term c.args.hyps.now ++ map lent c.args.more.now) (term c.args.goal.now) (c.is_given.ensures.words v) (sym test ∙ v)
