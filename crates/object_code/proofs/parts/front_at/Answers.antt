use Rattle.object_code.proofs.Whole.{names_exact}
use Rattle.object_code.proofs.parts.front_at.Goals as goal

pub returns-clause-vars : goal.returns-clause-vars
returns-clause-vars c = (names_exact.sound c.in_ok-version.rest.now c.in_ok-vars.vars c.in_ok-vars.rest.now c.in_ok-vars.ensures).0.0

pub returns-clause-locks : goal.returns-clause-locks
returns-clause-locks c = (names_exact.sound c.in_ok-vars.rest.now c.in_ok-locks.locks c.in_ok-locks.rest.now c.in_ok-locks.ensures).0.0
