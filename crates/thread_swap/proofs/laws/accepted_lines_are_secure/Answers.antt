use Rattle.thread_swap.proofs.SecureLines.{lines_secure}
use Rattle.thread_swap.proofs.laws.accepted_lines_are_secure.Goals as goal

pub returns : goal.returns
returns c j sound exact p fine ds fit = lines_secure j (c.exactly_accepted_is_secure.ensures j sound exact) p fine ds fit
