use Rattle.cov_ast.specs.Plain.{plain}
use Rattle.typing_law.proofs.Parts.{declarations_hold}
use Rattle.typing_law.proofs.Discipline.{disciplined}
use Rattle.typing_law.proofs.program_laws.accepted_is_disciplined.Goals as goal

pub returns : goal.returns
returns c p formed accepted =
    disciplined p formed accepted (λ t l h lt. c.threads_end_without_locks.ensures p t h l lt) (c.sets_are_holdings.ensures (plain p))
    (c.writable_and_stable_are_disjoint.ensures p (declarations_hold p accepted))
