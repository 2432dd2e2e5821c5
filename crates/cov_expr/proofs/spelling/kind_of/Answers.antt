use Rattle.std.proofs.Common.{refl}
use Rattle.cov_expr.specs.Spellings.{spellings}
use Rattle.cov_expr.proofs.spelling.kind_of.Goals as goal

pub beginning_with-requires : goal.beginning_with-requires
unfolding spellings
beginning_with-requires c = refl
