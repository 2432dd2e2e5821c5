use Rattle.entail_cert.proofs.Instances.{valid_entails}
use Rattle.entail_counter.specs.Counterexamples.{memory}
use Rattle.entail_counter.proofs.Breaking.{found_breaks, found_breaks_each}
use Rattle.entail_counter.proofs.Memories.{own_memory}
use Rattle.entail_text.proofs.laws.broken_entailments_have_no_certificate.Goals as goal

pub returns-clause-there : goal.returns-clause-there
returns-clause-there c = λ hyps asked m found. (found_breaks hyps asked m found, own_memory m)

pub returns-clause-each : goal.returns-clause-each
returns-clause-each c = found_breaks_each

pub returns-clause-none : goal.returns-clause-none
returns-clause-none c = λ hyps asked m found cert words valid.
    let b = found_breaks hyps asked m found in
    valid_entails hyps asked cert words valid (memory m) b.words b.hold b.fails
