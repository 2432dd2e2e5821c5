use Rattle.std.proofs.Common.{subst}
use Rattle.cov_ast.specs.Obligations.{Decides}
use Rattle.cov_ast.proofs.ObligationLaws.{append_decided, append_refused}
use Rattle.typing_rules.proofs.walk.both.Goals as goal

pub returns-in-Ok : goal.returns-in-Ok
returns-in-Ok c a b h k = let held = subst (λ r. Decides a r) c.in-Ok.is h in append_decided a b c.args.second held (k held)

pub returns-in-Err : goal.returns-in-Err
returns-in-Err c a b h k = append_refused a b c.in-Err.fault (subst (λ r. Decides a r) c.in-Err.is h)
