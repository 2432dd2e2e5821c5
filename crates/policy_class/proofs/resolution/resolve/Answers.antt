use Rattle.std.proofs.Common.{subst, sym}
use Rattle.cov_ast.specs.WellFormed.{AreOfWords, IsWellFormed}
use Rattle.policy_class.proofs.resolution.resolve.Goals as goal

pub returns-clause-formed : goal.returns-clause-formed
returns-clause-formed c =
    let made = c.resolved_program.ensures in
    subst IsWellFormed (sym made.resolved)
    (c.in_ok-ids.ensures.formed (subst (λ q. AreOfWords q.vars q.locks q.threads) made.resolved made.words))
