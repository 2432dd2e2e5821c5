use Rattle.entail_counter.proofs.Breaking.{found_breaks, found_breaks_each}
use Rattle.entail_counter.proofs.laws.counterexamples_break.Goals as goal

pub returns-clause-each : goal.returns-clause-each
returns-clause-each c = found_breaks_each

pub returns-clause-found : goal.returns-clause-found
returns-clause-found c = found_breaks
