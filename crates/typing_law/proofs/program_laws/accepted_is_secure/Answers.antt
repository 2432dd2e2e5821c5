use Rattle.typing_law.proofs.Parts.{declarations_hold, thread_holds}
use Rattle.typing_law.proofs.program_laws.accepted_is_secure.Goals as goal

pub returns : goal.returns
returns c p formed accepted =
    c.threads_compose.ensures p formed (c.true_declarations_are_declared.ensures p (declarations_hold p accepted)).controls_low
    (λ t inside. c.true_obligations_are_secure.ensures p formed (declarations_hold p accepted) t inside (thread_holds p accepted t inside))
    (c.writable_and_stable_are_disjoint.ensures p (declarations_hold p accepted))
