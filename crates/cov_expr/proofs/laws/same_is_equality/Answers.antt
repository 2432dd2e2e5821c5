use Rattle.std.proofs.Common.{ap, ◌∙◌, sym}
use Rattle.cov_expr.specs.Trees.{same}
use Rattle.cov_expr.proofs.Trees.{same_is, same_refl}
use Rattle.cov_expr.proofs.laws.same_is_equality.Goals as goal

pub returns : goal.returns
returns c = λ a b. (same_is a b, λ e. ap (λ x. same a x) (sym e) ∙ same_refl a)
