use Rattle.std.proofs.Common.{[], refl, subst}
use Rattle.cov_ast.specs.Obligations.{Decides}
use Rattle.typing_rules.specs.Keeping.{looked_at}
use Rattle.typing_rules.proofs.Reaching.{adds_none, no_entailments, stops_bare}
use Rattle.typing_rules.proofs.walk.finish.Goals as goal

pub returns-in-Ok : goal.returns-in-Ok
returns-in-Ok c u p t o a kept keeps h =
    ((subst (λ r. Decides (looked_at u o) r) c.in-Ok.is h, adds_none u o [] kept (no_entailments u o)), keeps, refl)

pub returns-in-Err : goal.returns-in-Err
returns-in-Err c u p t o a kept keeps h = stops_bare u o kept c.in-Err.fault (subst (λ r. Decides (looked_at u o) r) c.in-Err.is h)
